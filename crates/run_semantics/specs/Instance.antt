-- All that an instance did, from its start on (Z.101: agent).
use Rattle.std.specs.Prelude.{◌≡◌, ℕ, zero, suc, Bool, true, List, [], ◌∷◌, ◌++◌, Option, None, Some, drop, map}
use Rattle.port_model.specs.Ends.{OwnerState}
use Rattle.port_model.specs.History.{PortEvent}
use Rattle.port_model.specs.Port.{empty_port}
use Rattle.port_model.specs.declared.values.value.Value.{Value}
use Rattle.run_record.specs.Environment.{initial_store}
use Rattle.run_record.specs.Variables.{VariableList}
use Rattle.run_record.specs.declared.evaluation.identity.Identity.{Identity}
use Rattle.run_record.specs.declared.evaluation.store.Store.{Store}
use Rattle.run_record.specs.Event.{Event}
use Rattle.run_semantics.specs.Effect.{Deed, events_of}
use Rattle.run_semantics.specs.Goes.{drawn_as}
use Rattle.run_semantics.specs.ControlPoint.{AtStart, Definition, ControlPoint}
use Rattle.run_semantics.specs.Runs.{Runs, outside_of}
use Rattle.sdl_system.specs.Behaviour.{Behaviour, VariableMeaning}

-- The variables before the start: the formal parameters have the values of the create, and those for which none is
-- there, as in the instances with which a system begins, have none; the others have their initial values.
abbrev pub parameters_from : ℕ → List Value → List (Option Value)
parameters_from zero values = []
parameters_from (suc n) [] = None ∷ parameters_from n []
parameters_from (suc n) (value ∷ values) = Some value ∷ parameters_from n values

abbrev pub first_variables : Behaviour → List Value → VariableList
first_variables p values =
    parameters_from p.parameters values
    ++ drop p.parameters (map (λ (v : VariableMeaning). v.initial) p.variables)

abbrev pub first_store : Behaviour → List Value → Store
first_store p values = initial_store (first_variables p values)

-- The instance was made with these values, and its events are those of a run of its process, on a legal history that
-- leads from the empty port to its own. Where all that comes from outside is drawn, that is what came.
pub record HasRun (shared : Bool) (d : Definition) (who : Identity) (events : List Event) (place : ControlPoint) (s : Store)
    (owner : OwnerState) : Type 0 where
  pub values : List Value
  pub deeds : List Deed
  pub history : List PortEvent
  pub recorded : events ≡ events_of deeds
  pub outside : shared ≡ true → outside_of history ≡ drawn_as owner.pid owner.drawn
  pub runs : Runs d who AtStart (first_store d.behaviour values) empty_port deeds history place s owner.state
