-- Who lives at a moment of a serial run, as its report may say it.
use Rattle.std.proofs.Common.{◌≡◌, ◌∙◌, ◌⊎◌, ◌&&◌, ◌==◌, ◌++◌, ◌+◌, ◌<◌, ◌≤◌, ap, arith, cond, if◌then◌else◌, inl, inr, nat_eq, not, refl, subst, sym, unwrap_or, zero-add, ℕ, zero, suc, Bool, true, false, All, Contains, List, [], ◌∷◌, None, Option, Some, count_by, filter, length, map, slice_get}
use Rattle.std.proofs.lemmas.Bool.{cases_lt}
use Rattle.std.proofs.lemmas.List.Elements.{All-cons, All-contains_itself, All-head, All-nil, All-tail, All-weaker, Contains-append_left, Contains-append_right}
use Rattle.std.proofs.lemmas.List.Sums.{sum_by-append, sum_by-cons}
use Rattle.std.proofs.lemmas.Option.{none-some, same_Some, slice_get_past}
use Rattle.std.specs.List.{range_with_len}
use Rattle.laws_creates.proofs.LivingLemmas.{get_range}
use Rattle.laws_creates.proofs.Numbers.{Numbered}
use Rattle.laws_creates.specs.Creates.{identities}
use Rattle.laws_whole.proofs.Lists.{all_first, all_numbered}
use Rattle.laws_whole.proofs.Whos.{IsFront}
use Rattle.port_model.specs.Timers.{IsLeast}
use Rattle.run_record.specs.declared.evaluation.identity.Identity.{Identity}
use Rattle.run_record.specs.Record.{RecordValue}
use Rattle.sdl_interp.specs.Instance.{InstanceValue}
use Rattle.sdl_system.specs.Route.{living_in}
use Rattle.sdl_system.specs.System.{SystemValue}
use Rattle.sdl_system.specs.declared.id.ProcessId.{ProcessId}
use Rattle.serial_order.specs.RunState.{count_living, is_ended, least_living, lives_of, living_of}
use Rattle.settle_meaning.specs.Identities.{count_of, identities_of, identity_of, is_of_process}
use Rattle.settle_meaning.specs.Living.{AreLiving, is_instance_of, is_lasting, numbers_of}

-- ---- who lives among some instances

-- a name more, where its instance has not ended
abbrev pub live_of : Bool → Identity → List Identity → List Identity
live_of true who rest = rest
live_of false who rest = who ∷ rest

abbrev pub living_ids : List InstanceValue → List Identity
living_ids [] = []
living_ids (x ∷ xs) = live_of (is_ended x.position) x.who (living_ids xs)

module _ (P : Identity → Type 0) where
  one_live : (ended : Bool) (who : Identity) (rest : List Identity) → P who → All P rest
      → All P (live_of ended who rest)
  one_live true who rest holds all = all
  one_live false who rest holds all = All-cons P who rest holds all

  living_all : (xs : List InstanceValue) → All P (identities xs) → All P (living_ids xs)
  living_all [] all = All-nil P
  living_all (x ∷ xs) all =
      one_live (is_ended x.position) x.who (living_ids xs) (All-head P x.who (identities xs) all)
      (living_all xs (All-tail P x.who (identities xs) all))

contains_live : (xs : List InstanceValue) (k : ℕ) (i : InstanceValue) → slice_get xs k ≡ Some i
    → is_ended i.position ≡ false → Contains (living_ids xs) i.who
contains_live [] k i there lives = absurd (none-some i there)
contains_live (x ∷ xs) zero i there lives =
    let is : x ≡ i = same_Some x i there in
    subst (λ (ended : Bool). Contains (live_of ended x.who (living_ids xs)) i.who)
    (sym (ap (λ (j : InstanceValue). is_ended j.position) is ∙ lives))
    (0, omega arith, ap (λ (j : InstanceValue). j.who) is)
contains_live (x ∷ xs) (suc k) i there lives =
    by_test (is_ended x.position) (contains_live xs k i there lives) where
      by_test : (ended : Bool) → Contains (living_ids xs) i.who → Contains (live_of ended x.who (living_ids xs)) i.who
      by_test true among = among
      by_test false among = Contains-append_right (x.who ∷ []) (living_ids xs) i.who among

-- ---- the least number

module _ (process : ProcessId) where
  abbrev numbers : List InstanceValue → List ℕ
  numbers xs = numbers_of process (living_ids xs)

  abbrev lives : InstanceValue → Bool
  lives x = lives_of process.0 x

  numbers_live : (x : InstanceValue) (ids : List Identity) (ended : Bool)
      → numbers_of process (live_of ended x.who ids)
      ≡ (if ((x.who.process.0 == process.0) && not ended) then x.who.pid ∷ numbers_of process ids
      else numbers_of process ids)
  numbers_live x ids true = by_own (nat_eq x.who.process.0 process.0) where
    by_own : (own : Bool) → numbers_of process ids
        ≡ (if (own && false) then x.who.pid ∷ numbers_of process ids else numbers_of process ids)
    by_own true = refl
    by_own false = refl
  numbers_live x ids false = by_own (nat_eq x.who.process.0 process.0) where
    by_own : (own : Bool) → map (λ (who : Identity). who.pid)
        (cond own (x.who ∷ filter (is_instance_of process) ids) (filter (is_instance_of process) ids))
        ≡ (if (own && true) then x.who.pid ∷ numbers_of process ids else numbers_of process ids)
    by_own true = refl
    by_own false = refl

  numbers_cons : (x : InstanceValue) (xs : List InstanceValue)
      → numbers (x ∷ xs) ≡ (if lives x then x.who.pid ∷ numbers xs else numbers xs)
  numbers_cons x xs = numbers_live x (living_ids xs) (is_ended x.position)

  -- no number is below that of the first
  numbers_above : (base : ℕ) (xs : List InstanceValue) → Numbered base (identities xs)
      → All (λ n. base ≤ n) (numbers xs)
  numbers_above base [] numbered = All-nil (λ n. base ≤ n)
  numbers_above base (x ∷ xs) numbered =
      let later : All (λ n. base ≤ n) (numbers xs) =
      All-weaker (λ n. base + 1 ≤ n) (λ n. base ≤ n) (λ n above. omega (arith, above)) (numbers xs)
      (numbers_above (base + 1) xs numbered.1) in
      let first : base ≤ x.who.pid = omega (arith, numbered.0) in
      subst (λ (l : List ℕ). All (λ n. base ≤ n) l) (sym (numbers_cons x xs)) (by_test (lives x) first later) where
        by_test : (b : Bool) → base ≤ x.who.pid → All (λ n. base ≤ n) (numbers xs)
            → All (λ n. base ≤ n) (if b then x.who.pid ∷ numbers xs else numbers xs)
        by_test true first later = All-cons (λ n. base ≤ n) x.who.pid (numbers xs) first later
        by_test false first later = later

  -- the first that lives has the least
  least_is : (base : ℕ) (xs : List InstanceValue) → Numbered base (identities xs)
      → IsLeast (numbers xs) (least_living xs process.0)
  least_is base [] numbered = refl
  least_is base (x ∷ xs) numbered =
      let above : All (λ n. x.who.pid ≤ n) (numbers xs) =
      All-weaker (λ n. base + 1 ≤ n) (λ n. x.who.pid ≤ n) (λ n above. omega (arith, above, numbered.0)) (numbers xs)
      (numbers_above (base + 1) xs numbered.1) in
      subst (λ (l : List ℕ). IsLeast l (least_living (x ∷ xs) process.0)) (sym (numbers_cons x xs))
      (by_test (lives x) above (least_is (base + 1) xs numbered.1)) where
        by_test : (b : Bool) → All (λ n. x.who.pid ≤ n) (numbers xs) → IsLeast (numbers xs) (least_living xs process.0)
            → IsLeast (if b then x.who.pid ∷ numbers xs else numbers xs)
            (if b then Some x.who.pid else least_living xs process.0)
        by_test true above later = (
          (0, omega arith, refl),
          All-cons (λ n. x.who.pid ≤ n) x.who.pid (numbers xs) (omega arith) above,
        )
        by_test false above later = later

  -- none lives of a process that no instance is of
  none_living : (most : ℕ) (xs : List InstanceValue) → All (λ (who : Identity). who.process.0 < most) (identities xs)
      → most ≤ process.0 → least_living xs process.0 ≡ None
  none_living most [] all past = refl
  none_living most (x ∷ xs) all past =
      let own : x.who.process.0 < most =
      All-head (λ (who : Identity). who.process.0 < most) x.who (identities xs) all in
      let other : nat_eq x.who.process.0 process.0
      ≡ false = differs x.who.process.0 process.0 (omega (arith, own, past)) in
      ap (λ (b : Bool). if (b && not (is_ended x.position)) then Some x.who.pid else least_living xs process.0) other
      ∙ none_living most xs (All-tail (λ (who : Identity). who.process.0 < most) x.who (identities xs) all) past where
        differs : (m n : ℕ) → m < n → nat_eq m n ≡ false
        differs m n less = grind (arith, less)

-- ---- how many

module _ (process : ProcessId) where
  abbrev is_own : Identity → Bool
  is_own who = is_instance_of process who

  living_count : (xs : List InstanceValue) → count_living xs process.0 ≤ count_by is_own (identities xs)
  living_count [] = omega arith
  living_count (x ∷ xs) =
      let first : cond (lives_of process.0 x) 1 0 ≤ cond (is_own x.who) 1 0 =
      by_tests (is_own x.who) (not (is_ended x.position)) in
      let left : count_living (x ∷ xs) process.0 ≡ cond (lives_of process.0 x) 1 0 + count_living xs process.0 =
      sum_by-cons (λ (i : InstanceValue). cond (lives_of process.0 i) 1 0) x xs in
      let right : count_by is_own (identities (x ∷ xs)) ≡ cond (is_own x.who) 1 0 + count_by is_own (identities xs) =
      sum_by-cons (λ (who : Identity). cond (is_own who) 1 0) x.who (identities xs) in
      omega (arith, first, left, right, living_count xs) where
        by_tests : (own alive : Bool) → cond (own && alive) 1 0 ≤ cond own 1 0
        by_tests true true = omega arith
        by_tests true false = omega arith
        by_tests false alive = omega arith

  records_count : (records : List RecordValue) → count_by is_own (identities_of records) ≡ count_of records process
  records_count [] = refl
  records_count (trace ∷ rest) =
      sum_by-cons (λ (who : Identity). cond (is_own who) 1 0) (identity_of trace) (identities_of rest)
      ∙ ap (λ n. cond (is_of_process process trace) 1 0 + n) (records_count rest)
      ∙ sym (sum_by-cons (λ (one : RecordValue). cond (is_of_process process one) 1 0) trace rest)

  -- of a process no more live at a moment than there are records
  pub living_within : (xs : List InstanceValue) (records : List RecordValue)
      → IsFront (identities xs) (identities_of records) → count_living xs process.0 ≤ count_of records process
  living_within xs records front =
      let all : count_by is_own (identities_of records)
      ≡ count_by is_own (identities xs) + count_by is_own front.rest =
      ap (λ (l : List Identity). count_by is_own l) front.is
      ∙ sum_by-append (λ (who : Identity). cond (is_own who) 1 0) (identities xs) front.rest in
      omega (arith, all, living_count xs, records_count records)

-- ---- a moment

-- What is known of some instances, and of the records of a run: they have the numbers from 1 on and are among those
-- that
-- have records, and one with which the system begins and whose record has no end hasn't ended.
pub record IsMoment (records : List RecordValue) (xs : List InstanceValue) : Type 0 where
  pub numbered : Numbered 1 (identities xs)
  pub front : IsFront (identities xs) (identities_of records)
  pub lasting : (k : ℕ) (trace : RecordValue) → slice_get records k ≡ Some trace → is_lasting trace ≡ true
      → (i : InstanceValue) × (slice_get xs k ≡ Some i) × (i.who ≡ identity_of trace)
      × (is_ended i.position ≡ false)

module _ (system : SystemValue) (records : List RecordValue) (xs : List InstanceValue)
    (moment : IsMoment records xs)
    (processes : All (λ (who : Identity). who.process.0 < length system.processes) (identities_of records)) where
  abbrev least : List (Option ℕ)
  least = (living_of system xs).least

  own_processes : All (λ (who : Identity). who.process.0 < length system.processes) (identities xs)
  own_processes =
      all_first (λ (who : Identity). who.process.0 < length system.processes) (identities xs) moment.front.rest
      (subst (λ (l : List Identity). All (λ (who : Identity). who.process.0 < length system.processes) l)
      moment.front.is processes)

  least_within : (process : ProcessId) → process.0 < length system.processes
      → IsLeast (numbers_of process (living_ids xs)) (living_in least process)
  least_within process within =
      let found : slice_get least process.0 ≡ Some (least_living xs (0 + process.0)) =
      get_range (least_living xs) 0 (length system.processes) process.0 within in
      subst (λ (o : Option (Option ℕ)). IsLeast (numbers_of process (living_ids xs)) (unwrap_or o None)) (sym found)
      (subst (λ n. IsLeast (numbers_of process (living_ids xs)) (least_living xs n)) (sym (zero-add process.0))
      (least_is process 1 xs moment.numbered))

  length_least : length least ≡ length system.processes
  length_least = long (least_living xs) 0 (length system.processes) where
    long : (f : ℕ → Option ℕ) (base count : ℕ) → length (map f (range_with_len base count)) ≡ count
    long f base zero = refl
    long f base (suc count) = ap suc (long f (base + 1) count)

  least_past : (process : ProcessId) → length system.processes ≤ process.0
      → IsLeast (numbers_of process (living_ids xs)) (living_in least process)
  least_past process past =
      let none : slice_get least process.0
      ≡ None = slice_get_past least process.0 (omega (arith, length_least, past)) in
      subst (λ (o : Option (Option ℕ)). IsLeast (numbers_of process (living_ids xs)) (unwrap_or o None)) (sym none)
      (subst (λ (o : Option ℕ). IsLeast (numbers_of process (living_ids xs)) o)
      (none_living process (length system.processes) xs own_processes past)
      (least_is process 1 xs moment.numbered))

  or_past : (process : ProcessId)
      → (process.0 < length system.processes) ⊎ (length system.processes ≤ process.0)
      → IsLeast (numbers_of process (living_ids xs)) (living_in least process)
  or_past process (inl within) = least_within process within
  or_past process (inr past) = least_past process past

  pub are_living : AreLiving records least
  are_living = record {
    living = living_ids xs;
    recorded = living_all (λ (who : Identity). Contains (identities_of records) who) xs
        (subst (λ (l : List Identity). All (λ (who : Identity). Contains l who) (identities xs)) (sym moment.front.is)
        (All-weaker (Contains (identities xs)) (Contains (identities xs ++ moment.front.rest))
        (λ who among. Contains-append_left (identities xs) moment.front.rest who among) (identities xs)
        (All-contains_itself (identities xs))));
    lasting = all_numbered
        (λ (trace : RecordValue). is_lasting trace ≡ true → Contains (living_ids xs) (identity_of trace)) records
        (λ k trace there lasts.
        let found = moment.lasting k trace there lasts in
        subst (λ (who : Identity). Contains (living_ids xs) who) found.2
        (contains_live xs k found.0 found.1 found.3));
    least_is = λ process. or_past process (cases_lt process.0 (length system.processes));
  }
