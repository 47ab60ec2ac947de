-- Each time in a record is the clock's.
use Rattle.std.proofs.Common.{◌≡◌, ◌∙◌, ◌++◌, ◌≤◌, ap, arith, if◌then◌else◌, inl, inr, max, min, refl, subst, sym, ℕ, Bool, true, false, IfSome, List, [], ◌∷◌, None, Option, Some, map, nat_le, slice_get}
use Rattle.std.proofs.lemmas.List.Elements.{All-contains, All-map}
use Rattle.port_model.specs.declared.inbox.entry.Fuse.{Fuse}
use Rattle.port_model.specs.Timers.{IsLeast, earlier}
use Rattle.port_model.specs.declared.values.pid.Pid.TheVariants.{Of}
use Rattle.port_model.specs.declared.values.value.Value.{Value}
use Rattle.serial_order.proofs.Beginnings.{first_time}
use Rattle.serial_order.proofs.Histories.{are_followed, moment_from}
use Rattle.serial_order.proofs.Known.{moment_of}
use Rattle.serial_order.proofs.Numbers.{at_change, at_more, at_with}
use Rattle.run_semantics.specs.Behaves.{AreBehaviours}
use Rattle.serial_order.specs.Execution.{Execution, Expired, Follows, Happening, Heard, IsNoFuseBefore, IsNoLineBefore, Moved, Steps, Ticked, Ticks, begins, goes, next_line}
use Rattle.serial_order.specs.RunState.{RunState, after_effect, after_effects, world_at, beginning, change_at, instance_at, instance_of, with_created, with_expiry, with_instance, with_put}
use Rattle.serial_order.specs.Laws.{EachReadsTheClock}
use Rattle.serial_order.specs.Times.{AreAt, AreTimed, IsAt, IsTimed}
use Rattle.serial_order.specs.Told.{Moment, first_moment, moment_after}
use Rattle.run_record.specs.declared.evaluation.identity.Identity.{Identity}
use Rattle.sdl_interp.specs.Instance.{InstanceValue}
use Rattle.run_record.specs.Event as event
use Rattle.run_record.specs.Event.{Event}
use Rattle.run_semantics.specs.Effect.{Effect, Arm, Create, Deed, Send, effects_of}
use Rattle.run_semantics.specs.World.{IsReading, IsTrueOf, IsTrueOfOne, WorldValue, time_after, time_after_one}
use Rattle.run_semantics.specs.World as world
use Rattle.sdl_script.specs.declared.script.ScriptLine.{ScriptLine}
use Rattle.sdl_system.specs.Behaviour.{Behaviour}
use Rattle.sdl_system.specs.System.{SystemValue}
use Rattle.sdl_system.specs.declared.process.Process.{Process}
use Rattle.sdl_system.specs.declared.route.Target.TheVariants.{Env, Instance, Nobody, Null}
use Rattle.sdl_timers.specs.DueOrder.{with_fuse}

-- The clock isn't past what was to be done, and no instance has read a later time.
record IsTimely (g : RunState) : Type 0 where
  begun : g.clock ≤ g.until
  read : (n : ℕ) (i : InstanceValue) → instance_at g.instances n ≡ Some i → i.store.time ≤ g.clock

-- ---- what a step reads

latest : (a b : ℕ) → b ≤ a → max a b ≡ a
latest a b less = omega (arith, less)

module _ (system : SystemValue) (who : Identity) (clock : ℕ) where
  reading_is : (w : WorldValue) (before at : ℕ) → w.clock ≡ Some clock → before ≤ clock → IsReading w before at
      → at ≡ clock
  reading_is w before at known less reads =
      subst (λ (o : Option ℕ). IfSome o (λ clock. at ≡ max clock before)) known reads ∙ latest clock before less

  -- the time of an event, and of the instance after it
  record Reads (before : ℕ) (e : Event) : Type 0 where
    is_at : IsAt clock e
    after : time_after_one before e ≤ clock

  at_clock : (at : ℕ) → at ≡ clock → at ≤ clock
  at_clock at is = omega (arith, is)

  event_reads : (w : WorldValue) (before : ℕ) (e : Event) → w.clock ≡ Some clock → before ≤ clock
      → IsTrueOfOne system who w before e → Reads before e
  event_reads w before (event.Start at) known less is =
      let same = reading_is w before at known less is in record { is_at = same; after = at_clock at same }
  event_reads w before (event.Consumed at got) known less is =
      let same = reading_is w before at known less is in record { is_at = same; after = at_clock at same }
  event_reads w before (event.Prior at got) known less is =
      let same = reading_is w before at known less is in record { is_at = same; after = at_clock at same }
  event_reads w before (event.Discarded at got) known less is =
      let same = reading_is w before at known less is in record { is_at = same; after = at_clock at same }
  event_reads w before (event.Provided at number) known less is =
      let same = reading_is w before at known less is in record { is_at = same; after = at_clock at same }
  event_reads w before (event.FailedAt at why) known less is =
      let same = reading_is w before at known less is in record { is_at = same; after = at_clock at same }
  event_reads w before (event.Task variable value) known less is = record { is_at = tt; after = less }
  event_reads w before (event.Output signal named values target) known less is = record { is_at = tt; after = less }
  event_reads w before (event.Set key due) known less is = record { is_at = tt; after = less }
  event_reads w before (event.Reset key) known less is = record { is_at = tt; after = less }
  event_reads w before (event.Create process number) known less is = record { is_at = tt; after = less }
  event_reads w before (event.NextState state) known less is = record { is_at = tt; after = less }
  event_reads w before event.Stop known less is = record { is_at = tt; after = less }
  event_reads w before (event.Failed why) known less is = record { is_at = tt; after = less }
  event_reads w before (event.Rest state) known less is = record { is_at = tt; after = less }
  event_reads w before (event.Cut state) known less is = record { is_at = tt; after = less }

  clock_kept : (w : WorldValue) (done : List Effect) → (world.after_effects w done).clock ≡ w.clock
  clock_kept w [] = refl
  clock_kept w (effect ∷ rest) = clock_kept (world.after_effect w effect) rest

  deeds_read : (w : WorldValue) (before : ℕ) (deeds : List Deed) → w.clock ≡ Some clock → before ≤ clock
      → IsTrueOf system who w before deeds → AreAt clock deeds × (time_after before deeds ≤ clock)
  deeds_read w before [] known less are = (tt, less)
  deeds_read w before (deed ∷ rest) known less are =
      let first : Reads before deed.event = event_reads w before deed.event known less are.0 in
      let later : AreAt clock rest × (time_after (time_after_one before deed.event) rest ≤ clock) =
      deeds_read (world.after_effects w deed.effects) (time_after_one before deed.event) rest
      (clock_kept w deed.effects ∙ known) first.after are.1 in
      ((first.is_at, later.0), later.1)

-- ---- what is done outside

module _ (g : RunState) (timely : IsTimely g) where
  -- an instance that is changed has read what it had read
  change_timely : (change : InstanceValue → InstanceValue)
      → ((i : InstanceValue) → (change i).store.time ≡ i.store.time) → (m : ℕ)
      → IsTimely (record g { instances = change_at change g.instances m })
  change_timely change same m = record {
    begun = timely.begun;
    read = λ n i e.
        elim (at_change change g.instances m n i e) [
          | inl w ↦
              subst (λ k. k ≤ g.clock)
              (sym (ap (λ (j : InstanceValue). j.store.time) w.1.now ∙ same w.1.old))
              (timely.read n w.1.old w.1.is_there)
          | inr w ↦ timely.read n i w.1
        ];
  }

  created_timely : (who : Identity) (values : List Value) (o : Option Process)
      → IsTimely (record g { instances = with_created g.system g.instances who values o })
  created_timely who values None = record { begun = timely.begun; read = timely.read }
  created_timely who values (Some process) =
      let new : InstanceValue = instance_of g.system process who values in
      let first : new.store.time ≤ g.clock = omega arith in
      record {
        begun = timely.begun;
        read = λ n i e.
            elim (at_more g.instances new n i e) [
              | inl w ↦ timely.read n i w
              | inr w ↦ subst (λ (j : InstanceValue). j.store.time ≤ g.clock) (sym w.1) first
            ];
      }

  effect_timely : (effect : Effect) → IsTimely (after_effect g effect)
  effect_timely (Send (Instance number) item) = change_timely (with_put item) (λ i. refl) number
  effect_timely (Send Env item) = timely
  effect_timely (Send Null item) = timely
  effect_timely (Send Nobody item) = timely
  effect_timely (Arm fuse) =
      by_test (nat_le fuse.due g.clock)
      (record g { instances = change_at (with_expiry fuse g.clock) g.instances fuse.pid })
      (record g { fuses = with_fuse fuse g.fuses }) (change_timely (with_expiry fuse g.clock) (λ i. refl) fuse.pid)
      (record { begun = timely.begun; read = timely.read }) where
        by_test : (b : Bool) (now later : RunState) → IsTimely now → IsTimely later
            → IsTimely (if b then now else later)
        by_test true now later first second = first
        by_test false now later first second = second
  effect_timely (Create id number parent values) =
      created_timely (record { process = id; pid = number; parent = Of parent }) values
      (slice_get g.system.processes id.0)

effects_timely : (g : RunState) (done : List Effect) → IsTimely g → IsTimely (after_effects g done)
effects_timely g [] timely = timely
effects_timely g (effect ∷ rest) timely = effects_timely (after_effect g effect) rest (effect_timely g timely effect)

-- ---- the clock moves

earlier_after : (until time : ℕ) (a b : Option ℕ) → IfSome a (λ t. until ≤ t) → IfSome b (λ t. until ≤ t)
    → earlier a b ≡ Some time → until ≤ time
earlier_after until time None None first second e = let wrong : ⊥ = cc in absurd wrong
earlier_after until time None (Some other) first second e = let is : other ≡ time = cc in omega (arith, second, is)
earlier_after until time (Some one) None first second e = let is : one ≡ time = cc in omega (arith, first, is)
earlier_after until time (Some one) (Some other) first second e =
    let is : min one other ≡ time = cc in omega (arith, first, second, is)

line_after : (until : ℕ) (script : List ScriptLine) → IsNoLineBefore until script
    → IfSome (next_line script) (λ t. until ≤ t)
line_after until [] none = tt
line_after until (line ∷ later) none = none

fuse_after : (until : ℕ) (fuses : List Fuse) (due : Option ℕ) → IsNoFuseBefore until fuses
    → IsLeast (map (λ (fuse : Fuse). fuse.due) fuses) due → IfSome due (λ t. until ≤ t)
fuse_after until fuses None none least = tt
fuse_after until fuses (Some time) none least =
    All-contains (λ t. until ≤ t) (map (λ (fuse : Fuse). fuse.due) fuses) time
    (All-map (λ t. until ≤ t) (λ (fuse : Fuse). fuse.due) fuses none) least.0

module _ (ps : List Behaviour) (last : ℕ) where
  ticks_on : (g h : RunState) (time : ℕ) → IsTimely g → Ticks ps last g time h → IsTimely h
  ticks_on g h time timely tick =
      let later : g.until ≤ time =
      earlier_after g.until time tick.due (next_line g.script)
      (fuse_after g.until g.fuses tick.due tick.nothing_due.fuses tick.least)
      (line_after g.until g.script tick.nothing_due.lines) tick.is_next in
      subst (λ (g : RunState). IsTimely g) (sym tick.now) (record {
        begun = omega arith;
        read = λ n i e.
            let before : i.store.time ≤ g.clock = timely.read n i e in
            omega (arith, before, timely.begun, later);
      })

  -- ---- one happening

  step_reads : (g : RunState) (who : Identity) (deeds : List Deed) (h : RunState) (step : Steps ps g who deeds h)
      → IsTimely g → AreAt g.clock deeds × (step.new.store.time ≤ g.clock)
  step_reads g who deeds h step timely =
      let old : InstanceValue = step.old in
      let read : AreAt g.clock step.goes.deeds × (time_after old.store.time step.goes.deeds ≤ g.clock) =
      deeds_read old.system old.who g.clock (world_at g) old.store.time step.goes.deeds refl
      (timely.read who.pid old step.is_there) step.goes.are_true in (
        subst (λ (list : List Deed). AreAt g.clock list) step.deeds_are read.0,
        subst (λ k. k ≤ g.clock) (sym step.goes.time) read.1,
      )

  step_timely : (g : RunState) (who : Identity) (deeds : List Deed) (h : RunState) (step : Steps ps g who deeds h)
      → IsTimely g → IsTimely h
  step_timely g who deeds h step timely =
      let stepped : RunState = record g {
        instances = with_instance g.instances who.pid step.new;
        turn = who.pid;
        bound = step.bound;
      } in
      let then_read : IsTimely stepped = record {
        begun = timely.begun;
        read = λ n i e.
            elim (at_with g.instances who.pid n step.new i e) [
              | inl w ↦
                  subst (λ (j : InstanceValue). j.store.time ≤ g.clock) (sym w.1)
                  (step_reads g who deeds h step timely).1
              | inr w ↦ timely.read n i w.1
            ];
      } in
      subst (λ (g : RunState). IsTimely g) (sym step.now) (effects_timely stepped (effects_of deeds) then_read)

  timely_on : (g : RunState) (next : Happening) (h : RunState) → Follows ps last g next h → IsTimely g → IsTimely h
  timely_on g (Moved who deeds) h step timely = step_timely g who deeds h step timely
  timely_on g (Expired fuse) h expires timely =
      let before : RunState = record g { fuses = expires.later } in
      let same : IsTimely before = record { begun = timely.begun; read = timely.read } in
      subst (λ (g : RunState). IsTimely g) (sym expires.now)
      (change_timely before same (with_expiry fuse g.clock) (λ i. refl) fuse.pid)
  timely_on g (Heard line done) h hear timely =
      let before : RunState = record g { script = hear.later } in
      let same : IsTimely before = record { begun = timely.begun; read = timely.read } in
      subst (λ (g : RunState). IsTimely g) (sym hear.now) (effects_timely before done same)
  timely_on g (Ticked time) h tick timely = ticks_on g h time timely tick

  timed_one : (g : RunState) (next : Happening) (h : RunState) → Follows ps last g next h → IsTimely g
      → IsTimed (moment_of g) next
  timed_one g (Moved who deeds) h step timely = (step_reads g who deeds h step timely).0
  timed_one g (Expired fuse) h expires timely = tt
  timed_one g (Heard line done) h hear timely = tt
  timed_one g (Ticked time) h tick timely = tt

-- ---- all that happened

AreTimed-append : (now : Moment) (happenings : List Happening) (next : Happening) → AreTimed now happenings
    → IsTimed (moment_from now happenings) next → AreTimed now (happenings ++ next ∷ [])
AreTimed-append now [] next are last = (last, tt)
AreTimed-append now (first ∷ rest) next are last =
    (are.0, AreTimed-append (moment_after now first) rest next are.1 last)

module _ (ps : List Behaviour) (system : SystemValue) (lines : List ScriptLine) (time : ℕ)
    (behaviours : AreBehaviours system ps) where
  are_timed : {happenings : List Happening} {last : RunState}
      → Execution ps time (beginning system lines) happenings last
      → IsTimely last × AreTimed (first_moment system) happenings
  are_timed begins = (record { begun = omega arith; read = λ n i e. first_time system n i 0 e }, tt)
  are_timed (goes {happenings = happenings} {at = at} execution next to follows) =
      let before : IsTimely at × AreTimed (first_moment system) happenings = are_timed execution in
      let moment = (are_followed ps system lines time behaviours execution).moment in (
        timely_on ps time at next to follows before.0,
        AreTimed-append (first_moment system) happenings next before.1
            (subst (λ (m : Moment). IsTimed m next) moment (timed_one ps time at next to follows before.0)),
      )

-- each time in a record is the clock's time as it was told
pub each_reads_the_clock : EachReadsTheClock
each_reads_the_clock ps system lines time happenings last behaviours execution =
    (are_timed ps system lines time behaviours execution).1
