-- What holds of an instance: at its beginning, after a step, as something comes into its port, and as it is closed.
use Rattle.std.proofs.Common.{◌≡◌, ◌∙◌, ◌==◌, if◌then◌else◌, zero, suc, sym, ap, subst, refl, ℕ, Bool, true, false, IsTrue, List, [], ◌∷◌, ◌++◌, append-nil, drop, map, None, Some, Result, Ok, Err, MatchResult}
use Rattle.port_model.specs.Calls.{ComesBack, after_entry}
use Rattle.port_model.specs.Ends.{AloneState, OwnerState, single}
use Rattle.port_model.specs.declared.inbox.entry.Entry.{Entry}
use Rattle.port_model.specs.declared.inbox.entry.Entry.TheVariants.{Timer}
use Rattle.port_model.specs.declared.inbox.entry.Fuse.{Fuse}
use Rattle.port_model.specs.declared.refused.Refused.{Refused}
use Rattle.port_model.specs.Port.{PortState, expire_in, put_into}
use Rattle.port_model.specs.declared.values.item.Item.{Item}
use Rattle.port_model.specs.declared.values.value.Value.{Value}
use Rattle.sdl_interp.specs.Instance.{IsAtRest, IsClosed, IsInstance, closing, instance_of, variables_from}
use Rattle.sdl_interp.specs.Stimulus.{IsAnswered, IsStepped, Responds, StepsFrom}
use Rattle.run_record.specs.declared.evaluation.identity.Identity.{Identity}
use Rattle.run_record.specs.Event as event
use Rattle.run_record.specs.Event.{Event}
use Rattle.run_record.specs.Record.{RecordValue, noted}
use Rattle.run_semantics.proofs.Histories.{run_cut, run_goes, run_hears_expiry, run_hears_put, run_rests, run_unstarted, run_waits}
use Rattle.run_semantics.specs.Goes.{Goes, IsOneStep, MachineValue}
use Rattle.run_semantics.specs.Instance.{HasRun, first_variables, parameters_from}
use Rattle.run_semantics.specs.ControlPoint.{Definition}
use Rattle.run_semantics.specs.World.{WorldValue}
use Rattle.sdl_interp.proofs.Staying.{kept_on}
use Rattle.sdl_interp.specs.Machine.{IsPositionIn, identity_of, place_of}
use Rattle.sdl_interp.specs.Running.{CoreValue, IsReached, IsReady, IsSameInstance, seen}
use Rattle.sdl_interp.specs.Work.{IsOf}
use Rattle.sdl_interp.specs.declared.transitions.machine.Machine.{Machine}
use Rattle.sdl_interp.specs.declared.transitions.machine.Position.{Position}
use Rattle.sdl_interp.specs.declared.transitions.machine.Position.TheVariants as at
use Rattle.sdl_interp.specs.declared.transitions.running.Core.{Core}
use Rattle.sdl_system.specs.Behaviour.{Behaviour, Means, VariableMeaning, variable_meaning}
use Rattle.sdl_system.specs.System.{SystemValue}
use Rattle.sdl_system.specs.declared.id.StateId.{StateId}
use Rattle.sdl_system.specs.declared.process.Process.{Process}
use Rattle.sdl_system.specs.declared.process.Variable.{Variable}
use Rattle.std.specs.Prelude.{OnOk, Option, is_err, slice_get}
use Rattle.std.proofs.lemmas.Bool.{false≢true}
use denote.Ref.{Bor}

-- ---- the beginning

initials : (xs : List Variable)
    → map (λ (v : VariableMeaning). v.initial) (map variable_meaning xs) ≡ map (λ (v : Variable). v.initial) xs
initials [] = refl
initials (x ∷ xs) = ap (λ (rest : List (Option Value)). x.initial ∷ rest) (initials xs)

-- the variables before the start, by the process, are those by what it means
pub variables_mean : (process : Process) (p : Behaviour) → Means process p → (values : List Value)
    → variables_from process values ≡ first_variables p values
variables_mean process p means values =
    ap (λ (list : List (Option Value)).
    parameters_from process.parameters values ++ drop process.parameters list)
    (sym (initials process.variables.items)
    ∙ ap (λ (list : List VariableMeaning). map (λ (v : VariableMeaning). v.initial) list) means.variables_are)
    ∙ ap (λ (n : ℕ).
    parameters_from n values ++ drop n (map (λ (v : VariableMeaning). v.initial) p.variables)) means.parameters_are

-- one formal parameter more
pub parameters_more : (n : ℕ) (values : List Value)
    → parameters_from (suc n) values ≡ parameters_from n values ++ slice_get values n ∷ []
parameters_more zero [] = refl
parameters_more zero (value ∷ values) = refl
parameters_more (suc n) [] = ap (λ (list : List (Option Value)). None ∷ list) (parameters_more n [])
parameters_more (suc n) (value ∷ values) =
    ap (λ (list : List (Option Value)). Some value ∷ list) (parameters_more n values)

-- the initial values of variables that are read behind references
pub initials_read : (xs : List (Bor Variable))
    → map (λ (x : Bor Variable). x.now.initial) xs
    ≡ map (λ (v : Variable). v.initial) (map (λ (x : Bor Variable). x.now) xs)
initials_read [] = refl
initials_read (x ∷ xs) = ap (λ (rest : List (Option Value)). x.now.initial ∷ rest) (initials_read xs)

-- what holds where all went well
pub holds_ok : {T E P : Type 0} (r : Result T E) → is_err r ≡ false → OnOk r P → P
holds_ok (Ok x) well holds = holds
holds_ok (Err x) well holds = absurd (false≢true (sym well))

-- ---- steps

-- an instance that waits, and one that made a step, is one
module _ (shared : Bool) (from : Position) (k l : CoreValue) (w v : WorldValue)
    (is_instance : IsInstance shared from k) (same : IsSameInstance k l) where
  listed_still : slice_get l.system.processes l.work.who.process.0 ≡ Some l.process
  listed_still =
      kept_on (λ s p. slice_get s.processes l.work.who.process.0 ≡ Some p) k l same
      (subst (λ (who : Identity). slice_get k.system.processes who.process.0 ≡ Some k.process) (sym same.who)
      is_instance.listed)

  -- what was done before, and waiting, are a run
  run_idle : (place : Position)
      → ((d : Definition) → IsOf k.system k.process d
      → HasRun shared d k.work.who k.work.events (place_of place) k.work.store k.work.owner)
      → StepsFrom k.system k.process place k.work w None l.work v → (d : Definition) → IsOf k.system k.process d
      → HasRun shared d l.work.who l.work.events (place_of place) l.work.store l.work.owner
  run_idle at.BeforeStart run steps d is = absurd (steps d is)
  run_idle (at.In state) run steps d is = run_waits d shared state k.work l.work w v (run d is) (steps d is)
  run_idle at.Ended run steps d is = absurd (steps d is)

  pub idle_is : IsReady from l → StepsFrom k.system k.process from k.work w None l.work v → IsInstance shared from l
  idle_is ready steps = record {
    ready = ready;
    listed = listed_still;
    state = kept_on (λ s p. IsPositionIn p from) k l same is_instance.state;
    run = kept_on (λ s p. (d : Definition) → IsOf s p d
        → HasRun shared d l.work.who l.work.events (place_of from) l.work.store l.work.owner) k l same
        (run_idle from is_instance.run steps);
  }

  -- and so are what was done before, and a step
  pub stepped_is : (to : Position) (counts : Bool) → IsReached to l
      → ((d : Definition) → IsOf k.system k.process d
      → Goes (IsOneStep counts) d (place_of from) k.work w (place_of to) l.work v) → IsInstance shared to l
  stepped_is to counts reached steps = record {
    ready = reached.ready;
    listed = listed_still;
    state = reached.inside;
    run = kept_on (λ s p. (d : Definition) → IsOf s p d
        → HasRun shared d l.work.who l.work.events (place_of to) l.work.store l.work.owner) k l same
        (λ d is. run_goes d shared (IsOneStep counts) (place_of from) (place_of to) k.work l.work w v
        (is_instance.run d is) (steps d is));
  }

-- ---- the end

module _ {I : Type 0} (owning : I → OwnerState) (since : I → List Entry) (c : Core I) (shared whole : Bool)
    (trace : RecordValue) where
  abbrev k : CoreValue
  k = seen owning since c

  abbrev m : Machine
  m = c.machine

  abbrev o : OwnerState
  o = owning c.inbox

  abbrev system : SystemValue
  system = c.system.now

  abbrev process : Process
  process = c.process.now

  -- the record closes an instance at this position
  abbrev pub Closes : Position → Type 0
  Closes position =
      IsInstance shared position k → (IsTrue whole → IsAtRest (instance_of position k))
      → IsClosed shared whole (instance_of position k) trace

  pub closes_unstarted : trace ≡ noted m.trace (event.Cut None) → Closes at.BeforeStart
  closes_unstarted is = λ is_instance rests. record {
    process = ap (λ (t : RecordValue). t.process) is;
    pid = ap (λ (t : RecordValue). t.pid) is;
    parent = ap (λ (t : RecordValue). t.parent) is;
    listed = subst (λ (t : RecordValue). slice_get system.processes t.process.0 ≡ Some process) (sym is)
        is_instance.listed;
    events = ap (λ (t : RecordValue). t.events) is;
    run = λ d of. run_unstarted d shared (identity_of m.trace) m.trace.events trace.events m.store o
        (is_instance.run d of) (ap (λ (t : RecordValue). t.events) is);
  }

  pub closes_resting : (n : StateId) → whole ≡ true → trace ≡ noted m.trace (event.Rest n) → Closes (at.In n)
  closes_resting n is_whole is = λ is_instance rests. record {
    process = ap (λ (t : RecordValue). t.process) is;
    pid = ap (λ (t : RecordValue). t.pid) is;
    parent = ap (λ (t : RecordValue). t.parent) is;
    listed = subst (λ (t : RecordValue). slice_get system.processes t.process.0 ≡ Some process) (sym is)
        is_instance.listed;
    events = ap (λ (t : RecordValue). t.events) is
        ∙ ap (λ (b : Bool). m.trace.events ++ closing b (at.In n)) (sym is_whole);
    run = λ d of. let quiet = rests is_whole d of in
        run_rests d shared (identity_of m.trace) m.trace.events trace.events n m.store o quiet.0 (is_instance.run d of)
        quiet.1 (ap (λ (t : RecordValue). t.events) is);
  }

  pub closes_cut : (n : StateId) → whole ≡ false → trace ≡ noted m.trace (event.Cut (Some n)) → Closes (at.In n)
  closes_cut n is_cut is = λ is_instance rests. record {
    process = ap (λ (t : RecordValue). t.process) is;
    pid = ap (λ (t : RecordValue). t.pid) is;
    parent = ap (λ (t : RecordValue). t.parent) is;
    listed = subst (λ (t : RecordValue). slice_get system.processes t.process.0 ≡ Some process) (sym is)
        is_instance.listed;
    events = ap (λ (t : RecordValue). t.events) is
        ∙ ap (λ (b : Bool). m.trace.events ++ closing b (at.In n)) (sym is_cut);
    run = λ d of. run_cut d shared (identity_of m.trace) m.trace.events trace.events n m.store o
        (is_instance.run d of) (ap (λ (t : RecordValue). t.events) is);
  }

  pub closes_ended : trace ≡ m.trace → Closes at.Ended
  closes_ended is = λ is_instance rests. record {
    process = ap (λ (t : RecordValue). t.process) is;
    pid = ap (λ (t : RecordValue). t.pid) is;
    parent = ap (λ (t : RecordValue). t.parent) is;
    listed = subst (λ (t : RecordValue). slice_get system.processes t.process.0 ≡ Some process) (sym is)
        is_instance.listed;
    events = ap (λ (t : RecordValue). t.events) is ∙ sym (append-nil m.trace.events);
    run = λ d of. subst (λ (events : List Event).
        HasRun shared d (identity_of m.trace) events (place_of at.Ended) m.store o)
        (sym (ap (λ (t : RecordValue). t.events) is)) (is_instance.run d of);
  }

-- ---- a port for one thread

-- the instance with this port
abbrev pub at_port : CoreValue → AloneState → CoreValue
at_port k a = record k { work = record k.work { owner = single a.pid a.state a.armed } }

ready_as : (position : Position) (k : CoreValue) (old new : AloneState) → new.state.alive ≡ old.state.alive
    → new.pid ≡ old.pid → IsReady position (at_port k old) → IsReady position (at_port k new)
ready_as at.BeforeStart k old new alive pid ready =
    (record { room = ready.0.room; alive = alive ∙ ready.0.alive; own = pid ∙ ready.0.own }, ready.1)
ready_as (at.In state) k old new alive pid ready =
    record { room = ready.room; alive = alive ∙ ready.alive; own = pid ∙ ready.own }
ready_as at.Ended k old new alive pid ready = tt

module _ (position : Position) (k : CoreValue) where
  abbrev Stands : AloneState → Type 0
  Stands a = IsInstance false position (at_port k a)

  -- the port has become this one
  becomes : (old : AloneState) (port : PortState) → port.alive ≡ old.state.alive
      → ((d : Definition) → IsOf k.system k.process d
      → HasRun false d k.work.who k.work.events (place_of position) k.work.store (single old.pid port old.armed))
      → Stands old → Stands (record old { state = port })
  becomes old port alive run is_instance = record {
    ready = ready_as position k old (record old { state = port }) alive refl is_instance.ready;
    listed = is_instance.listed;
    state = is_instance.state;
    run = run;
  }

  pub stands_put : {T : Type 0} (r : Result T (Refused Item)) (old new : AloneState) (item : Item)
      → MatchResult r (λ _. new ≡ record old { state = put_into old.state item })
      (λ back. ComesBack back item × (new ≡ old)) → new.state.alive ≡ old.state.alive → Stands old → Stands new
  stands_put (Ok done) old new item is alive is_instance =
      subst Stands (sym is)
      (becomes old (put_into old.state item)
      (sym (ap (λ (a : AloneState). a.state.alive) is) ∙ alive)
      (λ d of. run_hears_put d false k.work.who k.work.events (place_of position) k.work.store
      (single old.pid old.state old.armed) item refl (is_instance.run d of))
      is_instance)
  stands_put (Err back) old new item is alive is_instance = subst Stands (sym is.1) is_instance

  -- an entry of a fuse that is this port's, or of another
  entered : (d : Definition) (old : AloneState) (fuse : Fuse) (time : ℕ) (own : Bool)
      → HasRun false d k.work.who k.work.events (place_of position) k.work.store
      (single old.pid old.state old.armed)
      → HasRun false d k.work.who k.work.events (place_of position) k.work.store
      (single old.pid (if own then expire_in old.state fuse.key fuse.arm fuse.due time else old.state) old.armed)
  entered d old fuse time true run =
      run_hears_expiry d false k.work.who k.work.events (place_of position) k.work.store
      (single old.pid old.state old.armed) fuse.key fuse.arm fuse.due time refl run
  entered d old fuse time false run = run

  pub stands_expired : {T : Type 0} (r : Result T (Refused Fuse)) (old new : AloneState) (fuse : Fuse) (time : ℕ)
      → MatchResult r (λ _. new ≡ record old { state = after_entry old.pid old.state time (Timer fuse) })
      (λ _. new ≡ old) → new.state.alive ≡ old.state.alive → Stands old → Stands new
  stands_expired (Ok done) old new fuse time is alive is_instance =
      subst Stands (sym is)
      (becomes old (after_entry old.pid old.state time (Timer fuse))
      (sym (ap (λ (a : AloneState). a.state.alive) is) ∙ alive)
      (λ d of. entered d old fuse time (fuse.pid == old.pid) (is_instance.run d of))
      is_instance)
  stands_expired (Err back) old new fuse time is alive is_instance = subst Stands (sym is) is_instance

-- ---- positions

-- what is answered in a state is a step from there
pub answered_stepped : (n : StateId) (answer : Option Position) (k : CoreValue) → IsAnswered answer k
    → IsStepped (at.In n) answer k
answered_stepped n None k answered = answered
answered_stepped n (Some to) k answered = answered

pub responds_steps : (system : SystemValue) (process : Process) (state : StateId) (m n : MachineValue)
    (w v : WorldValue) (answer : Option Position) → Responds system process state m w answer n v
    → StepsFrom system process (at.In state) m w answer n v
responds_steps system process state m n w v None responds = responds
responds_steps system process state m n w v (Some to) responds = responds
