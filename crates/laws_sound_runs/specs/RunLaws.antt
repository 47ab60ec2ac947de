-- Where transitions lead to states, a run comes to no place where one doesn't (Z.102: nextstate).
use Rattle.std.specs.Prelude.{List}
use Rattle.port_model.specs.History.{PortEvent}
use Rattle.port_model.specs.Port.{PortState}
use Rattle.run_record.specs.Environment.{Environment}
use Rattle.run_record.specs.declared.evaluation.identity.Identity.{Identity}
use Rattle.run_record.specs.declared.evaluation.store.Store.{Store}
use Rattle.run_record.specs.declared.failure.Failure.TheVariants.{Undefined}
use Rattle.run_semantics.specs.Effect.{Deed}
use Rattle.run_semantics.specs.Fails.{FailsIn, HasCause}
use Rattle.run_semantics.specs.ControlPoint.{AtStart, Definition, ControlPoint}
use Rattle.run_semantics.specs.Runs.{Runs}
use Rattle.laws_sound_runs.specs.Asked.{IsUnassigned, IsUnassignedIn}
use Rattle.laws_sound_runs.specs.States.{LeadsNowhere, LeadsToStates}
use Rattle.sdl_system.specs.Behaviour.{Behaviour, StateMeaning}

-- A run from the start comes to no `nextstate` that leads to no state.
abbrev pub ComesToStates : Type 0
ComesToStates =
    (d : Definition) (who : Identity) (place : ControlPoint) (s t : Store) (q r : PortState) (deeds : List Deed)
    (history : List PortEvent) → LeadsToStates d.behaviour → Runs d who AtStart s q deeds history place t r
    → LeadsNowhere d place → ⊥

-- So a transition fails as Undefined only where a variable is asked for that has no value.
abbrev pub UndefinedIsUnassigned : Type 0
UndefinedIsUnassigned =
    (d : Definition) (who : Identity) (place : ControlPoint) (s t : Store) (q r : PortState) (deeds : List Deed)
    (history : List PortEvent) → LeadsToStates d.behaviour → Runs d who AtStart s q deeds history place t r
    → HasCause d who r place t Undefined → IsUnassigned t.variables place

-- An instance fails in a state as Undefined only where a condition of the state asks for such a variable.
abbrev pub ConditionsAskUnassigned : Type 0
ConditionsAskUnassigned =
    (p : Behaviour) (state : StateMeaning) (here : Environment) (calls : List PortEvent)
    → FailsIn p state here calls Undefined → IsUnassignedIn here.variables state
