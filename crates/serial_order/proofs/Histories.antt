-- Each instance is told by the list of all that happened.
use Rattle.std.proofs.Common.{◌≡◌, ◌∙◌, ◌++◌, ◌<◌, ◌==◌, ap, append-nil, append_assoc, arith, if◌then◌else◌, inl, inr, refl, subst, sym, ℕ, Bool, false, List, [], ◌∷◌, None, Option, Some, length, nat_eq, slice_get}
use Rattle.std.proofs.lemmas.Option.{same_Some}
use Rattle.port_model.specs.History.{PortEvent}
use Rattle.port_model.specs.Port.{empty_port}
use Rattle.port_model.specs.declared.inbox.placed.Placed.{Placed}
use Rattle.serial_order.proofs.Beginnings.{known_beginning}
use Rattle.serial_order.proofs.Known.{AreKnown, IsKnown, effects_known, effects_moment, are_known_as, expiry_known, known_as, moment_of, same_known}
use Rattle.serial_order.proofs.Made.{MakeNext, deeds_make}
use Rattle.serial_order.proofs.Numbers.{at_with, eq_of, length-change, length-with, other_is, within}
use Rattle.serial_order.proofs.Own.{all_own, later_none}
use Rattle.serial_order.specs.Execution.{Execution, Expired, Follows, Happening, Heard, Hears, Moved, Steps, Ticked, begins, goes}
use Rattle.serial_order.specs.RunState.{RunState, after_effects, world_at, beginning, living_of, heard_effects, instance_at, with_expiry, with_instance}
use Rattle.serial_order.specs.Laws.{EachIsTold}
use Rattle.serial_order.specs.Told.{Moment, comes_by, deeds_of, deeds_of_one, first_moment, given_after, history_from, history_of, history_of_one, moment_after}
use Rattle.run_record.specs.declared.evaluation.identity.Identity.{Identity}
use Rattle.sdl_interp.specs.Instance.{InstanceValue}
use Rattle.run_record.specs.Event.{Event}
use Rattle.run_semantics.proofs.Acting.{runs_effects}
use Rattle.run_semantics.proofs.Deeds.{events_of-append}
use Rattle.run_semantics.proofs.Runs.{Runs-append}
use Rattle.run_semantics.specs.Effect.{Effect, Deed, effects_of, calls_of, events_of}
use Rattle.run_semantics.specs.Behaves.{AreBehaviours, Behaves}
use Rattle.run_semantics.specs.Goes.{drawn_as}
use Rattle.run_semantics.specs.Instance.{first_store}
use Rattle.run_semantics.specs.ControlPoint.{AtStart, Definition}
use Rattle.run_semantics.specs.Runs.{Runs}
use Rattle.sdl_script.specs.declared.script.ScriptLine.{ScriptLine}
use Rattle.sdl_script.specs.declared.script.ScriptSignal.{ScriptSignal}
use Rattle.sdl_interp.specs.Machine.{place_of}
use Rattle.sdl_system.specs.Behaviour.{Behaviour}
use Rattle.sdl_system.specs.System.{SystemValue}
use Rattle.sdl_system.specs.declared.process.Process.{Process}

-- ---- a step

module _ (ps : List Behaviour) (g : RunState) (who : Identity) (done : List Deed) (h : RunState)
    (step : Steps ps g who done h) where
  -- since nothing is drawn, the step's history of the port are its own calls
  pub step_calls : step.goes.history ≡ calls_of done
  step_calls =
      let none : step.goes.news ≡ [] =
      later_none step.old.owner.drawn step.goes.news (sym step.goes.drawn ∙ step.undrawn) in
      sym (all_own step.goes.history
      (step.goes.outside ∙ ap (λ (list : List Placed). drawn_as step.old.owner.pid list) none))
      ∙ step.goes.own ∙ ap calls_of step.deeds_are

  -- it makes instances with the next numbers
  pub step_makes : (system : SystemValue) → g.system ≡ system → MakeNext system (length g.instances) (effects_of done)
  step_makes system same =
      let old : InstanceValue = step.old in
      let d : Definition = record { system = old.system; behaviour = step.p } in
      subst (λ (list : List Deed). MakeNext system (length g.instances) (effects_of list)) step.deeds_are
      (subst (λ (s : SystemValue). MakeNext s (length g.instances) (effects_of step.goes.deeds)) same
      (deeds_make old.system old.who (world_at g) (living_of g.system g.instances) old.store.time step.goes.deeds refl
      (runs_effects d old.who (place_of old.position) old.store old.owner.state step.goes.runs) step.goes.are_true))

  module _ (system : SystemValue) (n : ℕ) (before : List Deed) (history : List PortEvent)
      (known : IsKnown ps system n step.old before history) where
    same_meaning : known.told.p ≡ step.p
    same_meaning = same_Some known.told.p step.p (sym known.told.meant.listed ∙ step.meant.listed)

    -- all that it did before, and the step, are a run
    step_runs : let d : Definition = record { system = step.old.system; behaviour = step.p } in
        Runs d step.old.who AtStart (first_store step.p known.told.values) empty_port (before ++ done)
        (history ++ calls_of done) (place_of step.new.position) step.new.store step.new.owner.state
    step_runs =
        let old : InstanceValue = step.old in
        let new : InstanceValue = step.new in
        let d : Definition = record { system = old.system; behaviour = step.p } in
        let start : Runs d old.who AtStart (first_store step.p known.told.values) empty_port before history
        (place_of old.position) old.store old.owner.state =
        subst (λ (p : Behaviour). Runs (record { system = old.system; behaviour = p }) old.who AtStart
        (first_store p known.told.values) empty_port before history (place_of old.position) old.store
        old.owner.state) same_meaning known.told.runs in
        subst (λ (list : List PortEvent). Runs d old.who AtStart (first_store step.p known.told.values) empty_port
        (before ++ done) (history ++ list) (place_of new.position) new.store new.owner.state) step_calls
        (subst (λ (list : List Deed). Runs d old.who AtStart (first_store step.p known.told.values) empty_port
        (before ++ list) (history ++ step.goes.history) (place_of new.position) new.store new.owner.state)
        step.deeds_are
        (Runs-append d old.who AtStart (first_store step.p known.told.values) empty_port before history
        (place_of old.position) old.store old.owner.state start step.goes.runs))

    pub known_moves : IsKnown ps system n step.new (before ++ done) (history ++ calls_of done)
    known_moves =
        let old : InstanceValue = step.old in
        let new : InstanceValue = step.new in
        record {
          number = ap (λ (w : Identity). w.pid) step.keeps.who ∙ known.number;
          owner = step.keeps.pid ∙ known.owner;
          system_is = step.keeps.system ∙ known.system_is;
          told = record {
            p = step.p;
            values = known.told.values;
            meant = record {
              listed = ap (λ (w : Identity). slice_get ps w.process.0) step.keeps.who ∙ step.meant.listed;
              is_run = record {
                system_is = refl;
                behaves = subst (λ (s : SystemValue). Behaves s new.process step.p) (sym step.keeps.system)
                    (subst (λ (process : Process). Behaves old.system process step.p) (sym step.keeps.process)
                    step.meant.is_run.behaves);
              };
            };
            recorded = step.goes.recorded
                ∙ ap (λ (list : List Deed). old.events ++ events_of list) step.deeds_are
                ∙ ap (λ (list : List Event). list ++ events_of done) known.told.recorded
                ∙ sym (events_of-append before done);
            runs = subst (λ (w : Identity). Runs (record { system = new.system; behaviour = step.p }) w AtStart
                (first_store step.p known.told.values) empty_port (before ++ done) (history ++ calls_of done)
                (place_of new.position) new.store new.owner.state) (sym step.keeps.who)
                (subst (λ (s : SystemValue). Runs (record { system = s; behaviour = step.p }) old.who AtStart
                (first_store step.p known.told.values) empty_port (before ++ done) (history ++ calls_of done)
                (place_of new.position) new.store new.owner.state) (sym step.keeps.system) step_runs);
          };
        }

-- ---- one happening more

module _ (ps : List Behaviour) (system : SystemValue) (behaviours : AreBehaviours system ps)
    (deeds : ℕ → List Deed) (history : ℕ → List PortEvent) (g : RunState)
    (known : AreKnown ps system g deeds history) where
  -- the instance has made its step, and nothing was done outside yet
  module _ (who : Identity) (done : List Deed) (h : RunState) (step : Steps ps g who done h) where
    abbrev stepped : RunState
    stepped = record g {
      instances = with_instance g.instances who.pid step.new;
      turn = who.pid;
      bound = step.bound;
    }

    abbrev deeds_then : ℕ → List Deed
    deeds_then n = deeds n ++ (if who.pid == n then done else [])

    abbrev history_then : ℕ → List PortEvent
    history_then n = history n ++ (if who.pid == n then calls_of done else [])

    stepped_count : length stepped.instances ≡ length g.instances
    stepped_count = length-with g.instances who.pid step.new

    stepped_each : (n : ℕ) (i : InstanceValue) → instance_at stepped.instances n ≡ Some i
        → IsKnown ps system n i (deeds_then n) (history_then n)
    stepped_each n i e =
        elim (at_with g.instances who.pid n step.new i e) [
          | inl w ↦
              let is : who.pid ≡ n = eq_of who.pid n w.0 in
              let there : instance_at g.instances n ≡ Some step.old =
              ap (λ k. instance_at g.instances k) (sym is) ∙ step.is_there in
              known_as ps system n step.new i (deeds n ++ done) (deeds_then n) (history n ++ calls_of done)
              (history_then n) (sym w.1)
              (ap (λ (b : Bool). deeds n ++ (if b then done else [])) (sym w.0))
              (ap (λ (b : Bool). history n ++ (if b then calls_of done else [])) (sym w.0))
              (known_moves ps g who done h step system n (deeds n) (history n) (known.each n step.old there))
          | inr w ↦
              known_as ps system n i i (deeds n) (deeds_then n) (history n) (history_then n) refl
              (sym (append-nil (deeds n)) ∙ ap (λ (b : Bool). deeds n ++ (if b then done else [])) (sym w.0))
              (sym (append-nil (history n))
              ∙ ap (λ (b : Bool). history n ++ (if b then calls_of done else [])) (sym w.0))
              (known.each n i w.1)
        ]

    stepped_known : AreKnown ps system stepped deeds_then history_then
    stepped_known = record {
      system_is = known.system_is;
      beyond = λ n less.
          let far : length g.instances < n = subst (λ k. k < n) stepped_count less in
          let inside = within g.instances who.pid step.old step.is_there in
          let other : nat_eq who.pid n ≡ false = other_is who.pid n (omega (arith, far, inside.1)) in
          let none = known.beyond n far in (
            ap (λ (b : Bool). deeds n ++ (if b then done else [])) other ∙ append-nil (deeds n) ∙ none.0,
            ap (λ (b : Bool). history n ++ (if b then calls_of done else [])) other ∙ append-nil (history n) ∙ none.1,
          );
      each = stepped_each;
    }

    stepped_moment : moment_of stepped ≡ moment_of g
    stepped_moment = ap (λ k. let now : Moment = record { given = k; clock = g.clock } in now) stepped_count

    stepped_makes : MakeNext system (length stepped.instances) (effects_of done)
    stepped_makes =
        subst (λ k. MakeNext system k (effects_of done)) (sym stepped_count)
        (step_makes ps g who done h step system known.system_is)

    moved_known : AreKnown ps system h (λ n. deeds n ++ deeds_of_one n (Moved who done))
        (λ n. history n ++ history_of_one n (moment_of g) (Moved who done))
    moved_known =
        are_known_as ps system deeds_then (λ n. history_then n ++ comes_by n (moment_of stepped) (effects_of done))
        (λ n. deeds n ++ deeds_of_one n (Moved who done))
        (λ n. history n ++ history_of_one n (moment_of g) (Moved who done)) (after_effects stepped (effects_of done)) h
        (sym step.now) (λ n. refl)
        (λ n. append_assoc (history n) (if who.pid == n then calls_of done else [])
        (comes_by n (moment_of stepped) (effects_of done))
        ∙ ap (λ (m : Moment). history n ++ ((if who.pid == n then calls_of done else [])
        ++ comes_by n m (effects_of done))) stepped_moment)
        (effects_known ps system behaviours deeds_then history_then stepped (effects_of done) stepped_known stepped_makes)

    moved_moment : moment_of h ≡ moment_after (moment_of g) (Moved who done)
    moved_moment =
        ap moment_of step.now ∙ effects_moment system stepped (effects_of done) known.system_is stepped_makes
        ∙ ap (λ k. let now : Moment = record { given = given_after k (effects_of done); clock = g.clock } in now)
        stepped_count

  -- nothing is told of what an instance did
  no_deeds : (history' : ℕ → List PortEvent) (h : RunState) → AreKnown ps system h deeds history'
      → AreKnown ps system h (λ n. deeds n ++ []) history'
  no_deeds history' h after =
      are_known_as ps system deeds history' (λ n. deeds n ++ []) history' h h refl
      (λ n. sym (append-nil (deeds n))) (λ n. refl) after

  heard_make : (given : ℕ) (signal : Option ScriptSignal) → MakeNext system given (heard_effects g signal)
  heard_make given None = tt
  heard_make given (Some signal) = (tt, tt)

  hears_make : (line : ScriptLine) (done : List Effect) (h : RunState) → Hears g line done h
      → MakeNext system (length g.instances) done
  hears_make line done h hear =
      subst (λ (list : List Effect). MakeNext system (length g.instances) list) (sym hear.effects_are)
      (heard_make (length g.instances) line.signal)

  pub happening_known : (last : ℕ) (next : Happening) (h : RunState) → Follows ps last g next h
      → AreKnown ps system h (λ n. deeds n ++ deeds_of_one n next)
      (λ n. history n ++ history_of_one n (moment_of g) next)
  happening_known last (Moved who done) h step = moved_known who done h step
  happening_known last (Expired fuse) h expires =
      let before : RunState = record g { fuses = expires.later } in
      no_deeds (λ n. history n ++ history_of_one n (moment_of g) (Expired fuse)) h
      (expiry_known ps system deeds history before (same_known ps system deeds history g known before refl refl) fuse h
      expires.now)
  happening_known last (Heard line done) h hear =
      let before : RunState = record g { script = hear.later } in
      let same = same_known ps system deeds history g known before refl refl in
      no_deeds (λ n. history n ++ comes_by n (moment_of g) done) h
      (subst (λ (h : RunState). AreKnown ps system h deeds (λ n. history n ++ comes_by n (moment_of g) done))
      (sym hear.now)
      (effects_known ps system behaviours deeds history before done same (hears_make line done h hear)))
  happening_known last (Ticked time) h tick =
      are_known_as ps system deeds history (λ n. deeds n ++ []) (λ n. history n ++ []) h h refl
      (λ n. sym (append-nil (deeds n))) (λ n. sym (append-nil (history n)))
      (same_known ps system deeds history g known h (ap (λ (g : RunState). g.system) tick.now)
      (ap (λ (g : RunState). g.instances) tick.now))

  pub happening_moment : (last : ℕ) (next : Happening) (h : RunState) → Follows ps last g next h
      → moment_of h ≡ moment_after (moment_of g) next
  happening_moment last (Moved who done) h step = moved_moment who done h step
  happening_moment last (Expired fuse) h expires =
      ap moment_of expires.now
      ∙ ap (λ k. let now : Moment = record { given = k; clock = g.clock } in now)
      (length-change (with_expiry fuse g.clock) g.instances fuse.pid)
  happening_moment last (Heard line done) h hear =
      ap moment_of hear.now
      ∙ effects_moment system (record g { script = hear.later }) done known.system_is (hears_make line done h hear)
  happening_moment last (Ticked time) h tick = ap moment_of tick.now

-- ---- all that happened

-- the moment behind all that happened
abbrev pub moment_from : Moment → List Happening → Moment
moment_from now [] = now
moment_from now (first ∷ rest) = moment_from (moment_after now first) rest

pub moment_from-append : (now : Moment) (happenings : List Happening) (next : Happening)
    → moment_from now (happenings ++ next ∷ []) ≡ moment_after (moment_from now happenings) next
moment_from-append now [] next = refl
moment_from-append now (first ∷ rest) next = moment_from-append (moment_after now first) rest next

deeds_of-append : (n : ℕ) (happenings : List Happening) (next : Happening)
    → deeds_of n (happenings ++ next ∷ []) ≡ deeds_of n happenings ++ deeds_of_one n next
deeds_of-append n [] next = append-nil (deeds_of_one n next)
deeds_of-append n (first ∷ rest) next =
    ap (λ (list : List Deed). deeds_of_one n first ++ list) (deeds_of-append n rest next)
    ∙ sym (append_assoc (deeds_of_one n first) (deeds_of n rest) (deeds_of_one n next))

history_from-append : (n : ℕ) (now : Moment) (happenings : List Happening) (next : Happening)
    → history_from n now (happenings ++ next ∷ [])
    ≡ history_from n now happenings ++ history_of_one n (moment_from now happenings) next
history_from-append n now [] next = append-nil (history_of_one n now next)
history_from-append n now (first ∷ rest) next =
    ap (λ (list : List PortEvent). history_of_one n now first ++ list)
    (history_from-append n (moment_after now first) rest next)
    ∙ sym (append_assoc (history_of_one n now first) (history_from n (moment_after now first) rest)
    (history_of_one n (moment_from (moment_after now first) rest) next))

-- what is known behind all that happened
pub record AreFollowed (ps : List Behaviour) (system : SystemValue) (happenings : List Happening) (last : RunState)
    : Type 0 where
  pub known : AreKnown ps system last (λ n. deeds_of n happenings) (λ n. history_of system n happenings)
  pub moment : moment_of last ≡ moment_from (first_moment system) happenings

module _ (ps : List Behaviour) (system : SystemValue) (lines : List ScriptLine) (time : ℕ)
    (behaviours : AreBehaviours system ps) where
  follows_on : (happenings : List Happening) (at : RunState) (next : Happening) (to : RunState)
      → AreFollowed ps system happenings at → Follows ps time at next to
      → AreFollowed ps system (happenings ++ next ∷ []) to
  follows_on happenings at next to before follows =
      let deeds : ℕ → List Deed = λ n. deeds_of n happenings in
      let history : ℕ → List PortEvent = λ n. history_of system n happenings in
      record {
        known = are_known_as ps system (λ n. deeds n ++ deeds_of_one n next)
            (λ n. history n ++ history_of_one n (moment_of at) next)
            (λ n. deeds_of n (happenings ++ next ∷ [])) (λ n. history_of system n (happenings ++ next ∷ [])) to to refl
            (λ n. sym (deeds_of-append n happenings next))
            (λ n. ap (λ (m : Moment). history n ++ history_of_one n m next) before.moment
            ∙ sym (history_from-append n (first_moment system) happenings next))
            (happening_known ps system behaviours deeds history at before.known time next to follows);
        moment = happening_moment ps system behaviours deeds history at before.known time next to follows
            ∙ ap (λ (m : Moment). moment_after m next) before.moment
            ∙ sym (moment_from-append (first_moment system) happenings next);
      }

  pub are_followed : {happenings : List Happening} {last : RunState}
      → Execution ps time (beginning system lines) happenings last → AreFollowed ps system happenings last
  are_followed begins = record { known = known_beginning ps system lines behaviours; moment = refl }
  are_followed (goes {happenings = happenings} {at = at} execution next to follows) =
      follows_on happenings at next to (are_followed execution) follows

-- each instance is told by the list of all that happened
pub each_is_told : EachIsTold
each_is_told ps system lines time happenings last behaviours execution =
    let known = (are_followed ps system lines time behaviours execution).known in
    record {
      numbers = λ n i e. (known.each n i e).number;
      each = λ n i e. (known.each n i e).told;
    }
