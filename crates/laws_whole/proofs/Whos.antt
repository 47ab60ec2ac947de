-- Who is there at a moment of a serial run, and who is there in the end.
use Rattle.std.proofs.Common.{◌≡◌, ◌∙◌, ◌⊎◌, ◌++◌, ◌+◌, ◌<◌, ◌≤◌, inl, inr, ap, append_assoc, arith, length-append, refl, subst, sym, ℕ, zero, suc, All, List, [], ◌∷◌, None, Option, Some, length, slice_get}
use Rattle.std.proofs.lemmas.List.Concat.{flat_map-append}
use Rattle.std.proofs.lemmas.List.Elements.{All-append, All-cons, All-head, All-nil, All-tail, All-weaker}
use Rattle.std.proofs.lemmas.Option.{none-some, same_Some, slice_get-map, slice_get_within}
use Rattle.std.specs.List.{flat_map}
use Rattle.std.specs.Option.{option_map}
use Rattle.laws_creates.proofs.Creates.{all_who, deeds_whom, effects_who, step_effects, step_makes, system_kept, who_append, who_count, whom}
use Rattle.laws_creates.proofs.Numbers.{Numbered, created_numbered}
use Rattle.laws_creates.proofs.Steps.{MakeNext-split}
use Rattle.laws_creates.specs.Creates.{created_by, created_in, created_in_one, identities}
use Rattle.laws_whole.proofs.Lists.{all_at, all_flat, at_front, in_one_of}
use Rattle.laws_whole.proofs.Occurs.{Occurs, all_occur}
use Rattle.port_model.specs.declared.values.pid.Pid.TheVariants.{Null, Of}
use Rattle.run_record.specs.declared.evaluation.identity.Identity.{Identity}
use Rattle.run_record.specs.Event as event
use Rattle.run_record.specs.Event.{Event}
use Rattle.run_semantics.specs.Effect.{Deed, Effect, effects_of}
use Rattle.sdl_interp.specs.Instance.{InstanceValue}
use Rattle.sdl_script.specs.declared.script.ScriptLine.{ScriptLine}
use Rattle.sdl_system.specs.Behaviour.{Behaviour}
use Rattle.sdl_system.specs.System.{SystemValue}
use Rattle.sdl_system.specs.declared.id.ProcessId.{ProcessId}
use Rattle.sdl_system.specs.declared.process.Process.{Process}
use Rattle.serial_order.proofs.Made.{MakeNext}
use Rattle.serial_order.specs.Execution.{Execution, Expired, Happening, Heard, Moved, Steps, Ticked}
use Rattle.serial_order.specs.RunState.{RunState, after_effects, beginning, first_instances, instance_at}
use Rattle.serial_order.specs.RunState as state
use Rattle.settle_meaning.specs.Identities.{first_identities, first_of, initial_of}

-- the second list begins with the first
pub record IsFront (first whole : List Identity) : Type 0 where
  pub rest : List Identity
  pub is : whole ≡ first ++ rest

-- the number of an instance that is there
pub there_within : (instances : List InstanceValue) (n : ℕ) (i : InstanceValue) → instance_at instances n ≡ Some i
    → (0 < n) × (n < length instances + 1)
there_within instances zero i there = absurd (none-some i there)
there_within instances (suc k) i there =
    let below : k < length instances = slice_get_within instances k i there in
    (omega arith, omega (arith, below))

-- ---- the beginning

first_are : (system : SystemValue) (number k : ℕ) (process : Process) (count : ℕ)
    → identities (state.first_of system number (record { 0 = k }) process count)
    ≡ first_of number (record { 0 = k }) count
first_are system number k process zero = refl
first_are system number k process (suc more) =
    ap (λ (l : List Identity). record { process = record { 0 = k }; pid = number; parent = Null } ∷ l)
    (first_are system (number + 1) k process more)

initials_are : (system : SystemValue) (number id : ℕ) (processes : List Process)
    → identities (first_instances system number id processes) ≡ first_identities number id processes
initials_are system number id [] = refl
initials_are system number id (process ∷ more) =
    let own : List InstanceValue = state.first_of system number (record { 0 = id }) process process.initial in
    let others : List InstanceValue = first_instances system (number + process.initial) (id + 1) more in
    who_append own others
    ∙ ap (λ (l : List Identity). l ++ identities others) (first_are system number id process process.initial)
    ∙ ap (λ (l : List Identity). first_of number (record { 0 = id }) process.initial ++ l)
    (initials_are system (number + process.initial) (id + 1) more)

-- those with which a run begins are those with which the system does
pub initial_are : (system : SystemValue) → identities (beginning system []).instances ≡ initial_of system
initial_are system = initials_are system 1 0 system.processes

-- ---- at a moment

module _ (ps : List Behaviour) (system : SystemValue) (lines : List ScriptLine) (time : ℕ)
    {happenings : List Happening} {last : RunState}
    (execution : Execution ps time (beginning system lines) happenings last) where
  -- before something happens
  pub front_before : (next : Happening) (occurs : Occurs ps system lines time happenings next)
      → identities last.instances
      ≡ identities occurs.at.instances ++ (created_in_one next ++ created_in occurs.after)
  front_before next occurs =
      let first : List Identity = identities (beginning system []).instances in
      let later : List Identity = created_in_one next ++ created_in occurs.after in
      all_who ps system lines time execution
      ∙ ap (λ (l : List Happening). first ++ created_in l) occurs.parted
      ∙ ap (λ (l : List Identity). first ++ l) (flat_map-append created_in_one occurs.before (next ∷ occurs.after))
      ∙ sym (append_assoc first (created_in occurs.before) later)
      ∙ ap (λ (l : List Identity). l ++ later) (sym (all_who ps system lines time occurs.execution))

  -- who has a number keeps it
  same_who : (next : Happening) (occurs : Occurs ps system lines time happenings next) (n : ℕ) (old i : InstanceValue)
      → instance_at occurs.at.instances n ≡ Some old → instance_at last.instances n ≡ Some i → i.who ≡ old.who
  same_who next occurs zero old i was is = absurd (none-some i is)
  same_who next occurs (suc k) old i was is =
      let xs : List InstanceValue = occurs.at.instances in
      let before : slice_get (identities xs) k ≡ Some old.who =
      slice_get-map (λ (j : InstanceValue). j.who) xs k
      ∙ ap (λ (o : Option InstanceValue). option_map (λ (j : InstanceValue). j.who) o) was in
      let after : slice_get (identities last.instances) k ≡ Some i.who =
      slice_get-map (λ (j : InstanceValue). j.who) last.instances k
      ∙ ap (λ (o : Option InstanceValue). option_map (λ (j : InstanceValue). j.who) o) is in
      same_Some i.who old.who
      (sym after ∙ ap (λ (l : List Identity). slice_get l k) (front_before next occurs)
      ∙ at_front (identities xs) (created_in_one next ++ created_in occurs.after) k old.who before)

  -- so has who makes a step
  pub who_is : (who : Identity) (deeds : List Deed) (occurs : Occurs ps system lines time happenings (Moved who deeds))
      (i : InstanceValue) → instance_at last.instances who.pid ≡ Some i → i.who ≡ who
  who_is who deeds occurs i is =
      let step : Steps ps occurs.at who deeds occurs.to = occurs.follows in
      same_who (Moved who deeds) occurs who.pid step.old i step.is_there is ∙ step.is_who

  -- before a deed of a step
  module _ (who : Identity) (before : List Deed) (deed : Deed) (after : List Deed)
      (occurs : Occurs ps system lines time happenings (Moved who (before ++ deed ∷ after))) where
    abbrev deeds : List Deed
    deeds = before ++ deed ∷ after

    abbrev pub amid : RunState
    amid = after_effects occurs.at (effects_of before)

    at_system : occurs.at.system ≡ system
    at_system = system_kept ps system time occurs.execution

    pub makes_before : MakeNext system (length occurs.at.instances) (effects_of before)
    makes_before =
        (MakeNext-split system (length occurs.at.instances) (effects_of before) (effects_of (deed ∷ after))
        (subst (λ (list : List Effect). MakeNext system (length occurs.at.instances) list)
        (flat_map-append (λ (deed : Deed). deed.effects) before (deed ∷ after))
        (step_makes ps occurs.at who deeds occurs.to occurs.follows system at_system))).0

    amid_are : identities amid.instances ≡ identities occurs.at.instances ++ flat_map whom (effects_of before)
    amid_are = effects_who system occurs.at (effects_of before) at_system makes_before

    pub front_amid : IsFront (identities amid.instances) (identities last.instances)
    front_amid =
        let now : List Identity = identities occurs.at.instances in
        let first : List Identity = flat_map whom (effects_of before) in
        let later : List Identity = flat_map whom (effects_of (deed ∷ after)) in
        let others : List Identity = created_in occurs.after in
        let made : created_in_one (Moved who deeds) ≡ first ++ later =
        sym (deeds_whom who.pid deeds (step_effects ps occurs.at who deeds occurs.to occurs.follows))
        ∙ ap (λ (l : List Effect). flat_map whom l)
        (flat_map-append (λ (deed : Deed). deed.effects) before (deed ∷ after))
        ∙ flat_map-append whom (effects_of before) (effects_of (deed ∷ after)) in
        record {
          rest = later ++ others;
          is = front_before (Moved who deeds) occurs
              ∙ ap (λ (l : List Identity). now ++ (l ++ others)) made
              ∙ ap (λ (l : List Identity). now ++ l) (append_assoc first later others)
              ∙ sym (append_assoc now first (later ++ others))
              ∙ ap (λ (l : List Identity). l ++ (later ++ others)) (sym amid_are);
        }

  -- as many numbers are given in the end, at the least
  pub no_fewer : (next : Happening) (occurs : Occurs ps system lines time happenings next)
      → length occurs.at.instances ≤ length last.instances
  no_fewer next occurs =
      let now : List Identity = identities occurs.at.instances in
      let later : List Identity = created_in_one next ++ created_in occurs.after in
      let all : length (identities last.instances) ≡ length (now ++ later) =
      ap (λ (l : List Identity). length l) (front_before next occurs) in
      omega (arith, all, length-append now later, who_count last.instances, who_count occurs.at.instances)

-- those with which the system begins are there from the beginning on
pub first_within : (ps : List Behaviour) (system : SystemValue) (lines : List ScriptLine) (time : ℕ)
    {happenings : List Happening} {last : RunState} → Execution ps time (beginning system lines) happenings last
    → length (beginning system []).instances ≤ length last.instances
first_within ps system lines time {happenings = happenings} {last = last} execution =
    let first : List Identity = identities (beginning system []).instances in
    let all : length (identities last.instances) ≡ length (first ++ created_in happenings) =
    ap (λ (l : List Identity). length l) (all_who ps system lines time execution) in
    omega (
      arith,
      all,
      length-append first (created_in happenings),
      who_count last.instances,
      who_count (beginning system []).instances,
    )

-- ---- parents

-- one of those with which the system begins, and one that was created, by an instance with a lesser number
abbrev pub IsInitial : Identity → Type 0
IsInitial who = who.parent ≡ Null

abbrev pub IsMade : Identity → Type 0
IsMade who = (parent : ℕ) × (who.parent ≡ Of parent) × (parent < who.pid)

all_initial : (number : ℕ) (process : ProcessId) (count : ℕ) → All IsInitial (first_of number process count)
all_initial number process zero = All-nil IsInitial
all_initial number process (suc more) =
    All-cons IsInitial (record { process = process; pid = number; parent = Null }) (first_of (number + 1) process more)
    refl (all_initial (number + 1) process more)

initial_all : (number id : ℕ) (processes : List Process) → All IsInitial (first_identities number id processes)
initial_all number id [] = All-nil IsInitial
initial_all number id (process ∷ more) =
    All-append IsInitial (first_of number (record { 0 = id }) process.initial)
    (first_identities (number + process.initial) (id + 1) more)
    (all_initial number (record { 0 = id }) process.initial)
    (initial_all (number + process.initial) (id + 1) more)

made_all : (parent base : ℕ) (ids : List Identity) → Numbered base ids
    → All (λ (who : Identity). who.parent ≡ Of parent) ids → parent < base → All IsMade ids
made_all parent base [] numbered all less = All-nil IsMade
made_all parent base (who ∷ rest) numbered all less =
    All-cons IsMade who rest
    (parent, All-head (λ (who : Identity). who.parent ≡ Of parent) who rest all, omega (arith, less, numbered.0))
    (made_all parent (base + 1) rest numbered.1 (All-tail (λ (who : Identity). who.parent ≡ Of parent) who rest all)
    (omega (arith, less)))

module _ (parent : ℕ) where
  abbrev IsOfParent : Identity → Type 0
  IsOfParent who = who.parent ≡ Of parent

  event_parent : (e : Event) → All IsOfParent (created_by parent e)
  event_parent (event.Create process (Some number)) =
      All-cons IsOfParent (record { process = process; pid = number; parent = Of parent }) [] refl (All-nil IsOfParent)
  event_parent (event.Create process None) = All-nil IsOfParent
  event_parent happened = All-nil IsOfParent

  deeds_parent : (deeds : List Deed) → All IsOfParent (flat_map (λ (deed : Deed). created_by parent deed.event) deeds)
  deeds_parent [] = All-nil IsOfParent
  deeds_parent (deed ∷ rest) =
      All-append IsOfParent (created_by parent deed.event)
      (flat_map (λ (deed : Deed). created_by parent deed.event) rest) (event_parent deed.event) (deeds_parent rest)

module _ (ps : List Behaviour) (system : SystemValue) (lines : List ScriptLine) (time : ℕ)
    (happenings : List Happening) where
  one_made : (next : Happening) → Occurs ps system lines time happenings next → All IsMade (created_in_one next)
  one_made (Moved who deeds) occurs =
      let step : Steps ps occurs.at who deeds occurs.to = occurs.follows in
      made_all who.pid (length occurs.at.instances + 1) (created_in_one (Moved who deeds))
      (created_numbered ps system time occurs.at (Moved who deeds) occurs.to occurs.follows
      (system_kept ps system time occurs.execution))
      (deeds_parent who.pid deeds) (there_within occurs.at.instances who.pid step.old step.is_there).1
  one_made (Expired fuse) occurs = All-nil IsMade
  one_made (Heard line effects) occurs = All-nil IsMade
  one_made (Ticked at) occurs = All-nil IsMade

  module _ {last : RunState} (execution : Execution ps time (beginning system lines) happenings last) where
    all_made : All IsMade (created_in happenings)
    all_made =
        all_flat IsMade created_in_one happenings
        (All-weaker (Occurs ps system lines time happenings) (λ (next : Happening). All IsMade (created_in_one next))
        one_made happenings (all_occur ps system lines time execution))

    -- an instance is one of the first, or was created
    pub born : (k : ℕ) (who : Identity) → slice_get (identities last.instances) k ≡ Some who
        → ((k < length (beginning system []).instances) × IsInitial who)
        ⊎ ((length (beginning system []).instances ≤ k) × IsMade who)
    born k who there =
        let first : List Identity = identities (beginning system []).instances in
        let count : length first ≡ length (beginning system []).instances = who_count (beginning system []).instances in
        let in_all : slice_get (first ++ created_in happenings) k ≡ Some who =
        ap (λ (l : List Identity). slice_get l k) (sym (all_who ps system lines time execution)) ∙ there in
        elim (in_one_of first (created_in happenings) k who in_all) [
          | inl w ↦
              inl (
                omega (arith, slice_get_within first k who w, count),
                all_at IsInitial first k who w
                    (subst (λ (l : List Identity). All IsInitial l) (sym (initial_are system))
                    (initial_all 1 0 system.processes)),
              )
          | inr w ↦
              inr (omega (arith, w.1, count), all_at IsMade (created_in happenings) w.0 who w.2 all_made)
        ]
