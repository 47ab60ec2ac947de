-- When a report ends: no event is past the clock, and the clock is not past the end.
use Rattle.std.proofs.Common.{◌≡◌, ◌∙◌, ◌+◌, ◌≤◌, arith, if◌then◌else◌, max, min, refl, subst, sym, ℕ, zero, suc, Bool, true, false, All, IfSome, List, [], ◌∷◌, None, Option, Some, map, nat_le, slice_get, slice_index_or}
use Rattle.std.proofs.lemmas.List.Elements.{All-append, All-cons, All-contains, All-head, All-map, All-nil, All-set, All-tail}
use Rattle.std.proofs.lemmas.Option.{get_or_from_slice_get, none-some, slice_get_within}
use Rattle.std.specs.List.{AllZip}
use Rattle.std.specs.List.Sorted.{IsNonDecreasingBy}
use Rattle.port_model.specs.declared.inbox.entry.Fuse.{Fuse}
use Rattle.port_model.specs.Timers.{IsLeast, earlier}
use Rattle.port_model.specs.declared.values.pid.Pid.TheVariants as pid
use Rattle.port_model.specs.declared.values.pid.Pid.TheVariants.{Of}
use Rattle.port_model.specs.declared.values.value.Value.{Value}
use Rattle.serial_order.specs.Execution.{Execution, Expired, Follows, Happening, Heard, IsNoFuseBefore, IsNoLineBefore, Moved, Steps, Ticked, Ticks, begins, goes, next_line}
use Rattle.serial_order.specs.RunState.{RunState, after_effect, after_effects, world_at, beginning, change_at, changed_at, first_instances, first_of, instance_at, instance_of, with_created, with_expiry, with_instance, with_put}
use Rattle.serial_order.specs.Report.{Closes, Ends}
use Rattle.laws_creates.proofs.Within.{IsWithin, all_within, lines_within}
use Rattle.laws_creates.specs.Ends.{EndsAreNotBefore, IsBy}
use Rattle.run_record.specs.declared.evaluation.identity.Identity.{Identity}
use Rattle.sdl_interp.specs.Instance.{InstanceValue, closing}
use Rattle.run_record.specs.Event as event
use Rattle.run_record.specs.Event.{Event}
use Rattle.run_record.specs.Record.{RecordValue}
use Rattle.run_semantics.specs.Effect.{Effect, Arm, Create, Deed, Send, effects_of, events_of}
use Rattle.run_semantics.specs.World.{IsReading, IsTrueOf, IsTrueOfOne, WorldValue, time_after, time_after_one}
use Rattle.run_semantics.specs.World as world
use Rattle.sdl_script.specs.Script.{end_of}
use Rattle.sdl_script.specs.declared.script.ScriptLine.{ScriptLine}
use Rattle.sdl_interp.specs.declared.transitions.machine.Position.{Position}
use Rattle.sdl_interp.specs.declared.transitions.machine.Position.TheVariants as position
use Rattle.sdl_system.specs.Behaviour.{Behaviour}
use Rattle.sdl_system.specs.System.{SystemValue}
use Rattle.sdl_system.specs.declared.process.Process.{Process}
use Rattle.sdl_system.specs.declared.route.Target.TheVariants.{Env, Instance, Nobody, Null}
use Rattle.sdl_timers.specs.DueOrder.{with_fuse}

-- no event of the instance, and no time that it has read, is past this
record IsEarly (clock : ℕ) (i : InstanceValue) : Type 0 where
  read : i.store.time ≤ clock
  events : All (IsBy clock) i.events

-- So it is with all instances and the clock, which isn't past what was to be done.
record AreEarly (g : RunState) : Type 0 where
  begun : g.clock ≤ g.until
  all : All (IsEarly g.clock) g.instances

-- ---- what a step reads

module _ (system : SystemValue) (who : Identity) (clock : ℕ) where
  reads_by : (before at : ℕ) → before ≤ clock → at ≡ max clock before → at ≤ clock
  reads_by before at less is = omega (arith, less, is)

  reading_by : (w : WorldValue) (before at : ℕ) → w.clock ≡ Some clock → before ≤ clock → IsReading w before at
      → (at ≤ clock) × (at ≤ clock)
  reading_by w before at known less reads =
      let by : at ≤ clock =
      reads_by before at less (subst (λ (o : Option ℕ). IfSome o (λ clock. at ≡ max clock before)) known reads) in
      (by, by)

  untimed : (before : ℕ) → before ≤ clock → (0 ≤ clock) × (before ≤ clock)
  untimed before less = (omega arith, less)

  -- the time of an event, and of the instance after it
  event_by : (w : WorldValue) (before : ℕ) (e : Event) → w.clock ≡ Some clock → before ≤ clock
      → IsTrueOfOne system who w before e → IsBy clock e × (time_after_one before e ≤ clock)
  event_by w before (event.Start at) known less is = reading_by w before at known less is
  event_by w before (event.Consumed at got) known less is = reading_by w before at known less is
  event_by w before (event.Prior at got) known less is = reading_by w before at known less is
  event_by w before (event.Discarded at got) known less is = reading_by w before at known less is
  event_by w before (event.Provided at number) known less is = reading_by w before at known less is
  event_by w before (event.FailedAt at why) known less is = reading_by w before at known less is
  event_by w before (event.Task variable value) known less is = untimed before less
  event_by w before (event.Output signal named values target) known less is = untimed before less
  event_by w before (event.Set key due) known less is = untimed before less
  event_by w before (event.Reset key) known less is = untimed before less
  event_by w before (event.Create process number) known less is = untimed before less
  event_by w before (event.NextState state) known less is = untimed before less
  event_by w before event.Stop known less is = untimed before less
  event_by w before (event.Failed why) known less is = untimed before less
  event_by w before (event.Rest state) known less is = untimed before less
  event_by w before (event.Cut state) known less is = untimed before less

  clock_kept : (w : WorldValue) (done : List Effect) → (world.after_effects w done).clock ≡ w.clock
  clock_kept w [] = refl
  clock_kept w (effect ∷ rest) = clock_kept (world.after_effect w effect) rest

  deeds_by : (w : WorldValue) (before : ℕ) (deeds : List Deed) → w.clock ≡ Some clock → before ≤ clock
      → IsTrueOf system who w before deeds → All (IsBy clock) (events_of deeds) × (time_after before deeds ≤ clock)
  deeds_by w before [] known less are = (All-nil (IsBy clock), less)
  deeds_by w before (deed ∷ rest) known less are =
      let first = event_by w before deed.event known less are.0 in
      let later = deeds_by (world.after_effects w deed.effects) (time_after_one before deed.event) rest
      (clock_kept w deed.effects ∙ known) first.1 are.1 in
      (All-cons (IsBy clock) deed.event (events_of rest) first.0 later.0, later.1)

-- ---- instances

module _ (clock : ℕ) where
  at_place : (xs : List InstanceValue) (k : ℕ) (i : InstanceValue) → slice_get xs k ≡ Some i
      → All (IsEarly clock) xs → IsEarly clock i
  at_place xs k i there all =
      subst (λ (j : InstanceValue). IsEarly clock j) (get_or_from_slice_get xs k i i there)
      (all k i (slice_get_within xs k i there))

  at_number : (xs : List InstanceValue) (n : ℕ) (i : InstanceValue) → instance_at xs n ≡ Some i
      → All (IsEarly clock) xs → IsEarly clock i
  at_number xs zero i there all = absurd (none-some i there)
  at_number xs (suc k) i there all = at_place xs k i there all

  with_early : (xs : List InstanceValue) (n : ℕ) (new : InstanceValue) → IsEarly clock new
      → All (IsEarly clock) xs → All (IsEarly clock) (with_instance xs n new)
  with_early xs zero new early all = all
  with_early xs (suc k) new early all = All-set (IsEarly clock) xs k new early all

  module _ (change : InstanceValue → InstanceValue)
      (keeps : (i : InstanceValue) → IsEarly clock i → IsEarly clock (change i)) where
    changed_early : (xs : List InstanceValue) (n : ℕ) (o : Option InstanceValue) → instance_at xs n ≡ o
        → All (IsEarly clock) xs → All (IsEarly clock) (changed_at change xs n o)
    changed_early xs n None is all = all
    changed_early xs n (Some i) is all = with_early xs n (change i) (keeps i (at_number xs n i is all)) all

    change_early : (xs : List InstanceValue) (n : ℕ) → All (IsEarly clock) xs
        → All (IsEarly clock) (change_at change xs n)
    change_early xs n all = changed_early xs n (instance_at xs n) refl all

  put_early : (change : InstanceValue → InstanceValue)
      → ((i : InstanceValue) → ((change i).store.time ≡ i.store.time) × ((change i).events ≡ i.events))
      → (i : InstanceValue) → IsEarly clock i → IsEarly clock (change i)
  put_early change same i early = record {
    read = subst (λ k. k ≤ clock) (sym (same i).0) early.read;
    events = subst (λ (list : List Event). All (IsBy clock) list) (sym (same i).1) early.events;
  }

  -- one before its start
  new_early : (system : SystemValue) (process : Process) (who : Identity) (values : List Value)
      → IsEarly clock (instance_of system process who values)
  new_early system process who values = record { read = omega arith; events = All-nil (IsBy clock) }

  created_early : (system : SystemValue) (xs : List InstanceValue) (who : Identity) (values : List Value)
      (o : Option Process) → All (IsEarly clock) xs → All (IsEarly clock) (with_created system xs who values o)
  created_early system xs who values None all = all
  created_early system xs who values (Some process) all =
      let new : InstanceValue = instance_of system process who values in
      All-append (IsEarly clock) xs (new ∷ []) all
      (All-cons (IsEarly clock) new [] (new_early system process who values) (All-nil (IsEarly clock)))

  first_of_early : (system : SystemValue) (number k : ℕ) (process : Process) (count : ℕ)
      → All (IsEarly clock) (first_of system number (record { 0 = k }) process count)
  first_of_early system number k process zero = All-nil (IsEarly clock)
  first_of_early system number k process (suc more) =
      let who : Identity = record { process = record { 0 = k }; pid = number; parent = pid.Null } in
      All-cons (IsEarly clock) (instance_of system process who [])
      (first_of system (number + 1) (record { 0 = k }) process more) (new_early system process who [])
      (first_of_early system (number + 1) k process more)

  first_early : (system : SystemValue) (number id : ℕ) (processes : List Process)
      → All (IsEarly clock) (first_instances system number id processes)
  first_early system number id [] = All-nil (IsEarly clock)
  first_early system number id (process ∷ more) =
      All-append (IsEarly clock) (first_of system number (record { 0 = id }) process process.initial)
      (first_instances system (number + process.initial) (id + 1) more)
      (first_of_early system number id process process.initial)
      (first_early system (number + process.initial) (id + 1) more)

-- ---- what is done outside

effect_early : (g : RunState) (effect : Effect) → AreEarly g → AreEarly (after_effect g effect)
effect_early g (Send (Instance number) item) early = record {
  begun = early.begun;
  all = change_early g.clock (with_put item) (put_early g.clock (with_put item) (λ i. (refl, refl))) g.instances number
      early.all;
}
effect_early g (Send Env item) early = early
effect_early g (Send Null item) early = early
effect_early g (Send Nobody item) early = early
effect_early g (Arm fuse) early =
    let change : InstanceValue → InstanceValue = with_expiry fuse g.clock in
    by_test (nat_le fuse.due g.clock) (record g { instances = change_at change g.instances fuse.pid })
    (record g { fuses = with_fuse fuse g.fuses })
    (record {
      begun = early.begun;
      all = change_early g.clock change (put_early g.clock change (λ i. (refl, refl))) g.instances fuse.pid early.all;
    })
    (record { begun = early.begun; all = early.all }) where
      by_test : (b : Bool) (now later : RunState) → AreEarly now → AreEarly later → AreEarly (if b then now else later)
      by_test true now later first second = first
      by_test false now later first second = second
effect_early g (Create id number parent values) early = record {
  begun = early.begun;
  all = created_early g.clock g.system g.instances (record { process = id; pid = number; parent = Of parent }) values
      (slice_get g.system.processes id.0) early.all;
}

effects_early : (g : RunState) (done : List Effect) → AreEarly g → AreEarly (after_effects g done)
effects_early g [] early = early
effects_early g (effect ∷ rest) early = effects_early (after_effect g effect) rest (effect_early g effect early)

-- ---- the clock moves

earlier_after : (until time : ℕ) (a b : Option ℕ) → IfSome a (λ t. until ≤ t) → IfSome b (λ t. until ≤ t)
    → earlier a b ≡ Some time → until ≤ time
earlier_after until time None None first second e = let wrong : ⊥ = cc in absurd wrong
earlier_after until time None (Some other) first second e = let is : other ≡ time = cc in omega (arith, second, is)
earlier_after until time (Some one) None first second e = let is : one ≡ time = cc in omega (arith, first, is)
earlier_after until time (Some one) (Some other) first second e =
    let is : min one other ≡ time = cc in omega (arith, first, second, is)

line_after : (until : ℕ) (script : List ScriptLine) → IsNoLineBefore until script
    → IfSome (next_line script) (λ t. until ≤ t)
line_after until [] none = tt
line_after until (line ∷ later) none = none

fuse_after : (until : ℕ) (fuses : List Fuse) (due : Option ℕ) → IsNoFuseBefore until fuses
    → IsLeast (map (λ (fuse : Fuse). fuse.due) fuses) due → IfSome due (λ t. until ≤ t)
fuse_after until fuses None none least = tt
fuse_after until fuses (Some time) none least =
    All-contains (λ t. until ≤ t) (map (λ (fuse : Fuse). fuse.due) fuses) time
    (All-map (λ t. until ≤ t) (λ (fuse : Fuse). fuse.due) fuses none) least.0

later_events : (clock time : ℕ) → clock ≤ time → (events : List Event) → All (IsBy clock) events
    → All (IsBy time) events
later_events clock time on events all = λ k d below.
    let before : time_after_one 0 (slice_index_or events k d) ≤ clock = all k d below in omega (arith, before, on)

later_early : (clock time : ℕ) → clock ≤ time → (i : InstanceValue) → IsEarly clock i → IsEarly time i
later_early clock time on i early =
    let read : i.store.time ≤ clock = early.read in
    record { read = omega (arith, read, on); events = later_events clock time on i.events early.events }

module _ (ps : List Behaviour) (last : ℕ) where
  ticks_early : (g h : RunState) (time : ℕ) → AreEarly g → Ticks ps last g time h → AreEarly h
  ticks_early g h time early tick =
      let later : g.until ≤ time =
      earlier_after g.until time tick.due (next_line g.script)
      (fuse_after g.until g.fuses tick.due tick.nothing_due.fuses tick.least)
      (line_after g.until g.script tick.nothing_due.lines) tick.is_next in
      let on : g.clock ≤ time = omega (arith, early.begun, later) in
      subst (λ (g : RunState). AreEarly g) (sym tick.now) (record {
        begun = omega arith;
        all = λ k d below. later_early g.clock time on (slice_index_or g.instances k d) (early.all k d below);
      })

  -- ---- one happening

  step_early : (g : RunState) (who : Identity) (deeds : List Deed) (h : RunState) → Steps ps g who deeds h → AreEarly g
      → AreEarly h
  step_early g who deeds h step early =
      let old : InstanceValue = step.old in
      let new : InstanceValue = step.new in
      let before : IsEarly g.clock old = at_number g.clock g.instances who.pid old step.is_there early.all in
      let read : All (IsBy g.clock) (events_of step.goes.deeds)
      × (time_after old.store.time step.goes.deeds ≤ g.clock) =
      deeds_by old.system old.who g.clock (world_at g) old.store.time step.goes.deeds refl before.read step.goes.are_true in
      let now : IsEarly g.clock new = record {
        read = subst (λ k. k ≤ g.clock) (sym step.goes.time) read.1;
        events = subst (λ (list : List Event). All (IsBy g.clock) list) (sym step.goes.recorded)
            (All-append (IsBy g.clock) old.events (events_of step.goes.deeds) before.events read.0);
      } in
      let stepped : RunState = record g {
        instances = with_instance g.instances who.pid new;
        turn = who.pid;
        bound = step.bound;
      } in
      subst (λ (g : RunState). AreEarly g) (sym step.now)
      (effects_early stepped (effects_of deeds)
      (record { begun = early.begun; all = with_early g.clock g.instances who.pid new now early.all }))

  next_early : (g : RunState) (next : Happening) (h : RunState) → Follows ps last g next h → AreEarly g → AreEarly h
  next_early g (Moved who deeds) h step early = step_early g who deeds h step early
  next_early g (Expired fuse) h expires early =
      let change : InstanceValue → InstanceValue = with_expiry fuse g.clock in
      subst (λ (g : RunState). AreEarly g) (sym expires.now) (record {
        begun = early.begun;
        all = change_early g.clock change (put_early g.clock change (λ i. (refl, refl))) g.instances fuse.pid early.all;
      })
  next_early g (Heard line done) h hear early =
      subst (λ (g : RunState). AreEarly g) (sym hear.now)
      (effects_early (record g { script = hear.later }) done (record { begun = early.begun; all = early.all }))
  next_early g (Ticked time) h tick early = ticks_early g h time early tick

  all_early : {system : SystemValue} {lines : List ScriptLine} {happenings : List Happening} {end : RunState}
      → Execution ps last (beginning system lines) happenings end → AreEarly end
  all_early {system = system} begins =
      record { begun = omega arith; all = first_early 0 system 1 0 system.processes }
  all_early (goes {at = at} execution next to follows) = next_early at next to follows (all_early execution)

-- ---- records

-- what closes a record has no time
closing_by : (end : ℕ) (whole : Bool) (at : Position) → All (IsBy end) (closing whole at)
closing_by end true position.BeforeStart =
    All-cons (IsBy end) (event.Cut None) [] (omega arith) (All-nil (IsBy end))
closing_by end false position.BeforeStart =
    All-cons (IsBy end) (event.Cut None) [] (omega arith) (All-nil (IsBy end))
closing_by end true (position.In n) = All-cons (IsBy end) (event.Rest n) [] (omega arith) (All-nil (IsBy end))
closing_by end false (position.In n) =
    All-cons (IsBy end) (event.Cut (Some n)) [] (omega arith) (All-nil (IsBy end))
closing_by end true position.Ended = All-nil (IsBy end)
closing_by end false position.Ended = All-nil (IsBy end)

module _ (ps : List Behaviour) (whole : Bool) (clock end : ℕ) (on : clock ≤ end) where
  records_by : (instances : List InstanceValue) (records : List RecordValue)
      → AllZip (Closes ps whole) instances records → All (IsEarly clock) instances
      → All (λ (trace : RecordValue). All (IsBy end) trace.events) records
  records_by [] [] closes all = All-nil (λ (trace : RecordValue). All (IsBy end) trace.events)
  records_by [] (trace ∷ records) closes all = absurd closes
  records_by (i ∷ instances) [] closes all = absurd closes
  records_by (i ∷ instances) (trace ∷ records) closes all =
      let early : IsEarly clock i = All-head (IsEarly clock) i instances all in
      All-cons (λ (trace : RecordValue). All (IsBy end) trace.events) trace records
      (subst (λ (list : List Event). All (IsBy end) list) (sym closes.0.closed.events)
      (All-append (IsBy end) i.events (closing whole i.position) (later_events clock end on i.events early.events)
      (closing_by end whole i.position)))
      (records_by instances records closes.1 (All-tail (IsEarly clock) i instances all))

clock_by : (ps : List Behaviour) (system : SystemValue) (lines : List ScriptLine) (limit : ℕ)
    (happenings : List Happening) (last : RunState) (end : ℕ)
    → Execution ps (end_of lines) (beginning system lines) happenings last → (whole : Bool)
    → Ends whole ps lines limit happenings last end
    → (whole ≡ true → IsNonDecreasingBy (λ (line : ScriptLine). line.at) lines) → last.clock ≤ end
clock_by ps system lines limit happenings last end execution true ends in_order =
    let within : IsWithin (end_of lines) last =
    all_within ps (end_of lines) (lines_within lines (in_order refl)) execution in
    subst (λ k. last.clock ≤ k) (sym ends.is_end) within.clock
clock_by ps system lines limit happenings last end execution false ends in_order =
    subst (λ k. last.clock ≤ k) (sym ends.is_end) (omega arith)

-- no event of a report is past its end
pub ends_are_not_before : EndsAreNotBefore
ends_are_not_before ps system lines limit report run in_order =
    records_by ps report.whole run.last.clock report.end
    (clock_by ps system lines limit run.happenings run.last report.end run.execution report.whole run.ends in_order)
    run.last.instances report.records.items run.records (all_early ps (end_of lines) run.execution).all
