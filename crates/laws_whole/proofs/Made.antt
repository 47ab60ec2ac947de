-- Each instance has one record, of its own, and there is no other.
use Rattle.std.proofs.Common.{◌≡◌, ◌∙◌, ◌++◌, ◌==◌, ◌+◌, ◌<◌, ◌≤◌, ap, append-nil, arith, if◌then◌else◌, refl, subst, sym, ℕ, zero, suc, Bool, true, false, All, IsPermutation, List, [], ◌∷◌, None, Some, length, nat_eq, slice_get}
use Rattle.std.proofs.lemmas.List.Concat.{flat_map-append}
use Rattle.std.proofs.lemmas.List.Elements.{All-head, All-tail, All-weaker}
use Rattle.std.proofs.lemmas.List.Sorted.{IsPermutation-append_right, IsPermutation-refl, IsPermutation-trans}
use Rattle.std.specs.List.{flat_map, range_with_len}
use Rattle.laws_creates.proofs.Creates.{all_who, who_count}
use Rattle.laws_creates.proofs.Numbers.{Numbered}
use Rattle.laws_creates.proofs.Numbers.{all_numbered as each_numbered}
use Rattle.laws_creates.specs.Creates as creates
use Rattle.laws_creates.specs.Creates.{identities}
use Rattle.laws_whole.proofs.Course.{IsOf, record_of, whos_are}
use Rattle.laws_whole.proofs.Lists.{flat_maps, map_numbers, spread}
use Rattle.laws_whole.proofs.Occurs.{Occurs, all_occur}
use Rattle.laws_whole.proofs.Whos.{initial_are, no_fewer, there_within}
use Rattle.run_record.specs.declared.evaluation.identity.Identity.{Identity}
use Rattle.run_record.specs.Event as event
use Rattle.run_record.specs.Event.{Event}
use Rattle.run_record.specs.Record.{RecordValue}
use Rattle.run_record.specs.declared.record.Report.{Report}
use Rattle.run_semantics.specs.Behaves.{AreBehaviours}
use Rattle.run_semantics.specs.Effect.{Deed, events_of}
use Rattle.sdl_interp.specs.declared.transitions.machine.Position.{Position}
use Rattle.sdl_interp.specs.declared.transitions.machine.Position.TheVariants as at
use Rattle.sdl_interp.specs.Instance.{closing}
use Rattle.sdl_script.specs.Script.{end_of}
use Rattle.sdl_script.specs.declared.script.ScriptLine.{ScriptLine}
use Rattle.sdl_system.specs.Behaviour.{Behaviour}
use Rattle.sdl_system.specs.System.{SystemValue}
use Rattle.serial_order.specs.Execution.{Expired, Happening, Heard, Moved, Steps, Ticked}
use Rattle.serial_order.specs.Laws.{EachIsTold}
use Rattle.serial_order.specs.Report.{IsSerialReport}
use Rattle.serial_order.specs.Told.{deeds_of, deeds_of_one}
use Rattle.settle_meaning.specs.Identities.{AreMade, AreRising, all_made, created_by, created_in, identities_of, initial_of}

-- ---- all deeds, by the instances that did them

eq_of : (m n : ℕ) → nat_eq m n ≡ true → m ≡ n
eq_of m n same = grind (arith, same)

differs : (m n : ℕ) → m < n → nat_eq m n ≡ false
differs m n less = grind (arith, less)

not_it : (m n : ℕ) → nat_eq m n ≡ false → m ≡ n → ⊥
not_it m n other same = let wrong : true ≡ false = sym (it m n same) ∙ other in absurd cc where
  it : (m n : ℕ) → m ≡ n → nat_eq m n ≡ true
  it m n same = grind (arith, same)

-- an instance with one of these numbers makes the step
abbrev pub IsBelow : ℕ → Happening → Type 0
IsBelow count (Moved who deeds) = (0 < who.pid) × (who.pid < count + 1)
IsBelow count (Expired fuse) = Unit {0}
IsBelow count (Heard line effects) = Unit {0}
IsBelow count (Ticked time) = Unit {0}

-- what is told of one happening, where something is told of the deeds of an instance
module _ {X : Type 0} (f : ℕ → List Deed → List X) where
  abbrev pub of_one : Happening → List X
  of_one (Moved who deeds) = f who.pid deeds
  of_one (Expired fuse) = []
  of_one (Heard line effects) = []
  of_one (Ticked time) = []

-- so in their order
module _ {X : Type 0} (f : ℕ → List Deed → List X) (none : (n : ℕ) → f n [] ≡ [])
    (more : (n : ℕ) (first later : List Deed) → f n (first ++ later) ≡ f n first ++ f n later) where
  module _ (p : ℕ) (deeds : List Deed) where
    abbrev part : ℕ → List X
    part n = f n (if p == n then deeds else [])

    part_other : (n : ℕ) → nat_eq p n ≡ false → part n ≡ []
    part_other n other = ap (λ (b : Bool). f n (if b then deeds else [])) other ∙ none n

    part_own : (n : ℕ) → nat_eq p n ≡ true → part n ≡ f p deeds
    part_own n own =
        ap (λ (b : Bool). f n (if b then deeds else [])) own ∙ ap (λ k. f k deeds) (sym (eq_of p n own))

    pick_none : (base count : ℕ) → p < base → flat_map part (range_with_len base count) ≡ []
    pick_none base zero less = refl
    pick_none base (suc count) less =
        ap (λ (l : List X). l ++ flat_map part (range_with_len (base + 1) count))
        (part_other base (differs p base less))
        ∙ pick_none (base + 1) count (omega (arith, less))

    pick_one : (base count : ℕ) → base ≤ p → p < base + count → flat_map part (range_with_len base count) ≡ f p deeds
    pick_one base zero above below = let wrong : ⊥ = omega (arith, above, below) in absurd wrong
    pick_one base (suc count) above below =
        by_test (nat_eq p base) refl (λ above_next below_next. pick_one (base + 1) count above_next below_next) where
          by_test : (b : Bool) → nat_eq p base ≡ b
              → (base + 1 ≤ p → p < base + 1 + count → flat_map part (range_with_len (base + 1) count) ≡ f p deeds)
              → flat_map part (range_with_len base (suc count)) ≡ f p deeds
          by_test true own others =
              let same : p ≡ base = eq_of p base own in
              ap (λ (l : List X). l ++ flat_map part (range_with_len (base + 1) count)) (part_own base own)
              ∙ ap (λ (l : List X). f p deeds ++ l) (pick_none (base + 1) count (omega (arith, same)))
              ∙ append-nil (f p deeds)
          by_test false other others =
              let apart : p ≡ base → ⊥ = not_it p base other in
              ap (λ (l : List X). l ++ flat_map part (range_with_len (base + 1) count)) (part_other base other)
              ∙ others (omega (arith, above, apart)) (omega (arith, below))

  nothing : (numbers : List ℕ) → flat_map (λ n. f n []) numbers ≡ []
  nothing [] = refl
  nothing (n ∷ rest) = ap (λ (l : List X). l ++ flat_map (λ n. f n []) rest) (none n) ∙ nothing rest

  pick : (count : ℕ) (happened : Happening) → IsBelow count happened
      → flat_map (λ n. f n (deeds_of_one n happened)) (range_with_len 1 count) ≡ of_one f happened
  pick count (Moved who deeds) within = pick_one who.pid deeds 1 count (omega (arith, within.0))
      (omega (arith, within.1))
  pick count (Expired fuse) within = nothing (range_with_len 1 count)
  pick count (Heard line effects) within = nothing (range_with_len 1 count)
  pick count (Ticked time) within = nothing (range_with_len 1 count)

  -- by instances it is the same as in the order in which it happened
  pub regrouped : (count : ℕ) (happenings : List Happening) → All (IsBelow count) happenings
      → IsPermutation (flat_map (λ n. f n (deeds_of n happenings)) (range_with_len 1 count))
      (flat_map (of_one f) happenings)
  regrouped count [] all =
      subst (λ (l : List X). IsPermutation l []) (sym (nothing (range_with_len 1 count))) (IsPermutation-refl [])
  regrouped count (first ∷ rest) all =
      let numbers : List ℕ = range_with_len 1 count in
      let here : List X = flat_map (λ n. f n (deeds_of_one n first)) numbers in
      let later : List X = flat_map (λ n. f n (deeds_of n rest)) numbers in
      let parts : flat_map (λ n. f n (deeds_of n (first ∷ rest))) numbers
      ≡ flat_map (λ n. f n (deeds_of_one n first) ++ f n (deeds_of n rest)) numbers =
      λ i. flat_map (λ n. more n (deeds_of_one n first) (deeds_of n rest) i) numbers in
      subst (λ (l : List X). IsPermutation l (of_one f first ++ flat_map (of_one f) rest)) (sym parts)
      (IsPermutation-trans (flat_map (λ n. f n (deeds_of_one n first) ++ f n (deeds_of n rest)) numbers)
      (here ++ later) (of_one f first ++ flat_map (of_one f) rest)
      (spread (λ n. f n (deeds_of_one n first)) (λ n. f n (deeds_of n rest)) numbers)
      (subst (λ (l : List X). IsPermutation (here ++ later) (l ++ flat_map (of_one f) rest))
      (pick count first (All-head (IsBelow count) first rest all))
      (IsPermutation-append_right here later (flat_map (of_one f) rest)
      (regrouped count rest (All-tail (IsBelow count) first rest all)))))

-- ---- who was created

-- of the deeds of the instance with this number
abbrev created_of : ℕ → List Deed → List Identity
created_of n deeds = flat_map (λ (deed : Deed). created_by n deed.event) deeds

created_more : (n : ℕ) (first later : List Deed)
    → created_of n (first ++ later) ≡ created_of n first ++ created_of n later
created_more n first later = flat_map-append (λ (deed : Deed). created_by n deed.event) first later

events_create : (n : ℕ) (deeds : List Deed) → flat_map (created_by n) (events_of deeds) ≡ created_of n deeds
events_create n [] = refl
events_create n (deed ∷ rest) = ap (λ (l : List Identity). created_by n deed.event ++ l) (events_create n rest)

closing_creates : (n : ℕ) (whole : Bool) (position : Position) → flat_map (created_by n) (closing whole position) ≡ []
closing_creates n whole at.BeforeStart = refl
closing_creates n true (at.In state) = refl
closing_creates n false (at.In state) = refl
closing_creates n whole at.Ended = refl

-- two tables say it in the same words
same_created : (n : ℕ) (e : Event) → creates.created_by n e ≡ created_by n e
same_created n (event.Create process (Some number)) = refl
same_created n (event.Create process None) = refl
same_created n happened = refl

deeds_same : (n : ℕ) (deeds : List Deed)
    → flat_map (λ (deed : Deed). creates.created_by n deed.event) deeds ≡ created_of n deeds
deeds_same n [] = refl
deeds_same n (deed ∷ rest) =
    ap (λ (l : List Identity). l ++ flat_map (λ (deed : Deed). creates.created_by n deed.event) rest)
    (same_created n deed.event)
    ∙ ap (λ (l : List Identity). created_by n deed.event ++ l) (deeds_same n rest)

one_same : (happened : Happening)
    → creates.created_in_one happened ≡ of_one created_of happened
one_same (Moved who deeds) = deeds_same who.pid deeds
one_same (Expired fuse) = refl
one_same (Heard line effects) = refl
one_same (Ticked time) = refl

all_same : (happenings : List Happening)
    → creates.created_in happenings ≡ flat_map (of_one created_of) happenings
all_same [] = refl
all_same (first ∷ rest) =
    ap (λ (l : List Identity). l ++ creates.created_in rest) (one_same first)
    ∙ ap (λ (l : List Identity). of_one created_of first ++ l) (all_same rest)

-- ---- numbers

rising : (base : ℕ) (records : List RecordValue) → Numbered (base + 1) (identities_of records) → AreRising base records
rising base [] numbered = tt
rising base (trace ∷ rest) numbered =
    let next : trace.pid ≡ base + 1 = numbered.0 in (
      omega (arith, next),
      rising trace.pid rest
          (subst (λ k. Numbered (k + 1) (identities_of rest)) (sym next) numbered.1),
    )

module _ (ps : List Behaviour) (system : SystemValue) (lines : List ScriptLine) (limit : ℕ) (report : Report)
    (behaviours : AreBehaviours system ps) (run : IsSerialReport ps system lines limit report)
    (each_told : EachIsTold) where
  abbrev records : List RecordValue
  records = report.records.items

  pub count_is : length records ≡ length run.last.instances
  count_is =
      sym (who_count_of records)
      ∙ ap (λ (l : List Identity). length l) (whos_are ps system lines limit report behaviours run each_told)
      ∙ who_count run.last.instances where
        who_count_of : (traces : List RecordValue) → length (identities_of traces) ≡ length traces
        who_count_of [] = refl
        who_count_of (trace ∷ rest) = ap suc (who_count_of rest)

  -- each step is of an instance that has a record
  below_one : (next : Happening) → Occurs ps system lines (end_of lines) run.happenings next
      → IsBelow (length records) next
  below_one (Moved who deeds) occurs =
      let step : Steps ps occurs.at who deeds occurs.to = occurs.follows in
      let within = there_within occurs.at.instances who.pid step.old step.is_there in (
        within.0,
        omega (
          arith,
          within.1,
          count_is,
          no_fewer ps system lines (end_of lines) run.execution
              (Moved who deeds) occurs,
        ),
      )
  below_one (Expired fuse) occurs = tt
  below_one (Heard line effects) occurs = tt
  below_one (Ticked time) occurs = tt

  pub all_below : All (IsBelow (length records)) run.happenings
  all_below =
      All-weaker (Occurs ps system lines (end_of lines) run.happenings)
      (IsBelow (length records)) below_one run.happenings
      (all_occur ps system lines (end_of lines) run.execution)

  record_creates : (k : ℕ) (trace : RecordValue) → slice_get records k ≡ Some trace
      → created_in trace ≡ created_of (1 + k) (deeds_of (1 + k) run.happenings)
  record_creates k trace there =
      let of : IsOf ps system lines limit report behaviours run each_told (suc k) trace =
      record_of ps system lines limit report behaviours run each_told k trace there in
      let n : ℕ = suc k in
      let deeds : List Deed = deeds_of n run.happenings in
      let same : n ≡ 1 + k = omega arith in
      ap (λ m. flat_map (created_by m) trace.events) of.number
      ∙ ap (λ (l : List Event). flat_map (created_by n) l) of.events
      ∙ flat_map-append (created_by n) (events_of deeds) (closing report.whole of.i.position)
      ∙ ap (λ (l : List Identity). flat_map (created_by n) (events_of deeds) ++ l)
      (closing_creates n report.whole of.i.position)
      ∙ append-nil (flat_map (created_by n) (events_of deeds))
      ∙ events_create n deeds
      ∙ ap (λ m. created_of m (deeds_of m run.happenings)) same

  by_numbers : flat_map created_in records
      ≡ flat_map (λ n. created_of n (deeds_of n run.happenings)) (range_with_len 1 (length records))
  by_numbers =
      flat_maps created_in records
      ∙ ap (λ (l : List (List Identity)). flat_map (λ (ids : List Identity). ids) l)
      (map_numbers created_in (λ n. created_of n (deeds_of n run.happenings)) 1 records record_creates)
      ∙ sym (flat_maps (λ n. created_of n (deeds_of n run.happenings)) (range_with_len 1 (length records)))

  pub are_made : AreMade system records
  are_made =
      let whos : identities_of records ≡ identities run.last.instances =
      whos_are ps system lines limit report behaviours run each_told in
      let all : List Identity = flat_map (of_one created_of) run.happenings in
      let told : identities_of records ≡ initial_of system ++ all =
      whos ∙ all_who ps system lines (end_of lines) run.execution
      ∙ ap (λ (l : List Identity). l ++ creates.created_in run.happenings) (initial_are system)
      ∙ ap (λ (l : List Identity). initial_of system ++ l) (all_same run.happenings) in
      record {
        each = subst (λ (l : List Identity). IsPermutation (all_made system records) l) (sym told)
            (subst (λ (l : List Identity). IsPermutation (initial_of system ++ l) (initial_of system ++ all))
            (sym by_numbers)
            (IsPermutation-append_right (initial_of system)
            (flat_map (λ n. created_of n (deeds_of n run.happenings)) (range_with_len 1 (length records))) all
            (regrouped created_of (λ n. refl) created_more (length records) run.happenings all_below)));
        rising = rising 0 records
            (subst (λ (l : List Identity). Numbered 1 l) (sym whos)
            (each_numbered ps system (end_of lines) run.execution));
      }
