-- As many transitions are in the records as were made.
use Rattle.std.proofs.Common.{◌≡◌, ◌∙◌, ◌++◌, ◌+◌, ap, arith, cond, if◌then◌else◌, refl, subst, sym, ℕ, suc, Bool, true, false, All, List, [], ◌∷◌, Some, count_by, length, slice_get, sum}
use Rattle.std.proofs.lemmas.List.Elements.{All-head, All-tail, All-weaker}
use Rattle.std.proofs.lemmas.List.Sorted.{sum_by-IsPermutation}
use Rattle.std.proofs.lemmas.List.Sums.{sum-map, sum_by-append, sum_by-cons}
use Rattle.std.specs.List.{flat_map, range_with_len}
use Rattle.laws_whole.proofs.Course.{IsOf, record_of}
use Rattle.laws_whole.proofs.Lists.{count_flat, map_numbers}
use Rattle.laws_whole.proofs.Made.{all_below, of_one, regrouped}
use Rattle.laws_whole.proofs.Occurs.{Occurs, all_occur}
use Rattle.run_record.specs.Event as event
use Rattle.run_record.specs.Event.{Event, is_beginning}
use Rattle.run_record.specs.Record.{RecordValue}
use Rattle.run_record.specs.declared.record.Report.{Report}
use Rattle.run_semantics.proofs.Deeds.{events_of-append}
use Rattle.run_semantics.specs.Behaves.{AreBehaviours}
use Rattle.run_semantics.specs.Effect.{Deed, events_of}
use Rattle.run_semantics.specs.Goes.{AreInner, IsInner, IsOneStep}
use Rattle.sdl_interp.specs.declared.transitions.machine.Position.{Position}
use Rattle.sdl_interp.specs.declared.transitions.machine.Position.TheVariants as position
use Rattle.sdl_interp.specs.Instance.{closing}
use Rattle.sdl_script.specs.Script.{end_of}
use Rattle.sdl_script.specs.declared.script.ScriptLine.{ScriptLine}
use Rattle.sdl_system.specs.Behaviour.{Behaviour}
use Rattle.sdl_system.specs.System.{SystemValue}
use Rattle.serial_order.specs.Execution.{Expired, Happening, Heard, Moved, Steps, Ticked, is_transition, transitions_of, transitions_of_one}
use Rattle.serial_order.specs.Laws.{EachIsTold}
use Rattle.serial_order.specs.Report.{IsSerialReport}
use Rattle.serial_order.specs.Told.{deeds_of}
use Rattle.settle_meaning.specs.Closed.{transitions, transitions_in}

abbrev beginnings : List Event → ℕ
beginnings events = count_by is_beginning events

beginnings-cons : (e : Event) (events : List Event)
    → beginnings (e ∷ events) ≡ cond (is_beginning e) 1 0 + beginnings events
beginnings-cons e events = sum_by-cons (λ (one : Event). cond (is_beginning one) 1 0) e events

beginnings-append : (first later : List Event) → beginnings (first ++ later) ≡ beginnings first + beginnings later
beginnings-append first later = sum_by-append (λ (one : Event). cond (is_beginning one) 1 0) first later

-- ---- one step

no_beginning : (e : Event) → IsInner e → is_beginning e ≡ false
no_beginning (event.Task variable value) inner = refl
no_beginning (event.Output signal to values target) inner = refl
no_beginning (event.Set key due) inner = refl
no_beginning (event.Reset key) inner = refl
no_beginning (event.Create process number) inner = refl
no_beginning (event.NextState state) inner = refl
no_beginning event.Stop inner = refl
no_beginning (event.Failed why) inner = refl
no_beginning happened inner = absurd inner

inner_beginnings : (deeds : List Deed) → AreInner deeds → beginnings (events_of deeds) ≡ 0
inner_beginnings [] inner = refl
inner_beginnings (deed ∷ rest) inner =
    let none : is_beginning deed.event ≡ false =
    no_beginning deed.event (All-head (λ (deed : Deed). IsInner deed.event) deed rest inner) in
    beginnings-cons deed.event (events_of rest)
    ∙ ap (λ (b : Bool). cond b 1 0 + beginnings (events_of rest)) none
    ∙ ap (λ n. 0 + n) (inner_beginnings rest (All-tail (λ (deed : Deed). IsInner deed.event) deed rest inner))

one_step : (counts : Bool) (deeds : List Deed) → IsOneStep counts deeds
    → beginnings (events_of deeds) ≡ (if counts then 1 else 0)
one_step counts [] step = absurd step
one_step counts (first ∷ rest) step =
    beginnings-cons first.event (events_of rest)
    ∙ ap (λ (b : Bool). cond b 1 0 + beginnings (events_of rest)) step.1
    ∙ ap (λ n. cond counts 1 0 + n) (inner_beginnings rest step.2)
    ∙ by_test counts where
      by_test : (b : Bool) → cond b 1 0 + 0 ≡ (if b then 1 else 0)
      by_test true = refl
      by_test false = refl

-- what closes a record begins no transition
closing_begins : (whole : Bool) (at : Position) → beginnings (closing whole at) ≡ 0
closing_begins whole position.BeforeStart = refl
closing_begins true (position.In n) = refl
closing_begins false (position.In n) = refl
closing_begins whole position.Ended = refl

-- ---- all that happened

abbrev told : ℕ → List Deed → List Event
told n deeds = events_of deeds

-- a step has as many beginnings as it counts
abbrev IsCounted : Happening → Type 0
IsCounted happened = beginnings (of_one told happened) ≡ transitions_of_one happened

all_counted : (happenings : List Happening) → All IsCounted happenings
    → beginnings (flat_map (of_one told) happenings) ≡ transitions_of happenings
all_counted [] all = refl
all_counted (first ∷ rest) all =
    beginnings-append (of_one told first) (flat_map (of_one told) rest)
    ∙ ap (λ n. n + beginnings (flat_map (of_one told) rest)) (All-head IsCounted first rest all)
    ∙ ap (λ n. transitions_of_one first + n) (all_counted rest (All-tail IsCounted first rest all))

module _ (ps : List Behaviour) (system : SystemValue) (lines : List ScriptLine) (limit : ℕ) (report : Report)
    (behaviours : AreBehaviours system ps) (run : IsSerialReport ps system lines limit report)
    (each_told : EachIsTold) where
  abbrev records : List RecordValue
  records = report.records.items

  one_counted : (next : Happening) → Occurs ps system lines (end_of lines) run.happenings next → IsCounted next
  one_counted (Moved who deeds) occurs =
      let step : Steps ps occurs.at who deeds occurs.to = occurs.follows in
      one_step (is_transition deeds) deeds
      (subst (λ (list : List Deed). IsOneStep (is_transition deeds) list) step.deeds_are step.goes.shape)
  one_counted (Expired fuse) occurs = refl
  one_counted (Heard line effects) occurs = refl
  one_counted (Ticked time) occurs = refl

  abbrev number_of : ℕ → ℕ
  number_of n = beginnings (events_of (deeds_of n run.happenings))

  record_counts : (k : ℕ) (trace : RecordValue) → slice_get records k ≡ Some trace
      → transitions_in trace ≡ number_of (1 + k)
  record_counts k trace there =
      let of : IsOf ps system lines limit report behaviours run each_told (suc k) trace =
      record_of ps system lines limit report behaviours run each_told k trace there in
      let events : List Event = events_of (deeds_of (suc k) run.happenings) in
      let same : suc k ≡ 1 + k = omega arith in
      let none : beginnings events + 0 ≡ beginnings events = omega arith in
      ap beginnings of.events
      ∙ beginnings-append events (closing report.whole of.i.position)
      ∙ ap (λ n. beginnings events + n) (closing_begins report.whole of.i.position)
      ∙ none
      ∙ ap number_of same

  pub transitions_are : transitions records ≡ transitions_of run.happenings
  transitions_are =
      let numbers : List ℕ = range_with_len 1 (length records) in
      sym (sum-map transitions_in records)
      ∙ ap (λ (l : List ℕ). sum l) (map_numbers transitions_in number_of 1 records record_counts)
      ∙ sum-map number_of numbers
      ∙ sym (count_flat is_beginning (λ n. events_of (deeds_of n run.happenings)) numbers)
      ∙ sym (sum_by-IsPermutation (λ (e : Event). cond (is_beginning e) 1 0)
      (flat_map (λ n. events_of (deeds_of n run.happenings)) numbers) (flat_map (of_one told) run.happenings)
      (regrouped told (λ n. refl) (λ n first later. events_of-append first later) (length records) run.happenings
      (all_below ps system lines limit report behaviours run each_told)))
      ∙ all_counted run.happenings
      (All-weaker (Occurs ps system lines (end_of lines) run.happenings) IsCounted one_counted run.happenings
      (all_occur ps system lines (end_of lines) run.execution))
