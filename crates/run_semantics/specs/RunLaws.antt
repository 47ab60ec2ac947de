-- Laws of runs.
use Rattle.std.specs.Prelude.{◌≡◌, ℕ, true, List, [], ◌++◌, Some}
use Rattle.port_model.specs.Calls.{after_draws}
use Rattle.port_model.specs.declared.inbox.placed.Placed.{Placed}
use Rattle.port_model.specs.Ends.{OwnerState}
use Rattle.port_model.specs.History.{IsLegal, PortEvent}
use Rattle.port_model.specs.Port.{PortState, empty_port}
use Rattle.port_model.specs.declared.selection.Class.{Class}
use Rattle.run_record.specs.Environment.{environment}
use Rattle.run_record.specs.declared.evaluation.identity.Identity.{Identity}
use Rattle.run_record.specs.declared.evaluation.store.Store.{Store}
use Rattle.run_record.specs.Event.{Event}
use Rattle.run_semantics.specs.Effect.{Deed, events_of}
use Rattle.run_semantics.specs.Goes.{drawn_as}
use Rattle.run_semantics.specs.Instance.{HasRun}
use Rattle.run_semantics.specs.Leads.{Selecting}
use Rattle.run_semantics.specs.ControlPoint.{Closed, Definition, Ended, ControlPoint}
use Rattle.run_semantics.specs.Runs.{Runs, outside_of}
use Rattle.run_semantics.specs.Selection.{tried}
use Rattle.run_semantics.specs.Sent.{sent_with}
use Rattle.run_semantics.specs.World.{Sent, WorldValue, after_deeds}
use Rattle.sdl_system.specs.Behaviour.{ContinuousSignal}
use Rattle.sdl_system.specs.declared.id.StateId.{StateId}

-- Two runs, of which the second begins where the first ends, are one, on the one history and then the other.
abbrev pub RunsAppend : Type 0
RunsAppend =
    (d : Definition) (who : Identity) (from mid to : ControlPoint) (s t u : Store) (q r end : PortState)
    (deeds later : List Deed) (history calls : List PortEvent)
    → Runs d who from s q deeds history mid t r → Runs d who mid t r later calls to u end
    → Runs d who from s q (deeds ++ later) (history ++ calls) to u end

-- What has come to such a place does nothing any more: no deed, no step, and what it knows stays.
abbrev pub GoesNoFurther : ControlPoint → Type 0
GoesNoFurther place =
    (d : Definition) (who : Identity) (to : ControlPoint) (s t : Store) (q r : PortState) (deeds : List Deed)
    (history : List PortEvent) → Runs d who place s q deeds history to t r → (deeds ≡ []) × (to ≡ place) × (t ≡ s)

-- so it is with an instance that has ended, and with a record that is closed
abbrev pub EndsForGood : Type 0
EndsForGood = GoesNoFurther Ended × GoesNoFurther Closed

-- Where it is known what was sent before a run, it is known behind it: to each instance that has a port, in addition what
-- the events of the run send there.
abbrev pub OutputsAreSent : Type 0
OutputsAreSent =
    (d : Definition) (who : Identity) (from to : ControlPoint) (s t : Store) (q r : PortState) (deeds : List Deed)
    (history : List PortEvent) (w : WorldValue) (sent : Sent)
    → Runs d who from s q deeds history to t r → w.sent ≡ Some sent
    → (after_deeds w deeds).sent ≡ Some (sent_with who.pid (events_of deeds) sent)

-- What is drawn, of signals and expiries, changes neither the classes that a state selects nor which of its continuous
-- signals begins.
abbrev pub SelectsWhateverIsDrawn : Type 0
SelectsWhateverIsDrawn =
    (d : Definition) (who : Identity) (q : PortState) (n : StateId) (s : Store) (classes : List Class) (pid : ℕ)
    (news : List Placed) → Selecting d who q n s classes → Selecting d who (after_draws pid q news) n s classes

abbrev pub TriesWhateverIsDrawn : Type 0
TriesWhateverIsDrawn =
    (d : Definition) (who : Identity) (q : PortState) (s : Store) (signals : List ContinuousSignal) (pid : ℕ)
    (news : List Placed)
    → tried (environment d.system who s (after_draws pid q news)) signals ≡ tried (environment d.system who s q) signals

-- A run is on one legal history of the standard's port, from the port with which it begins to that with which it ends.
abbrev pub RunsAreLegal : Type 0
RunsAreLegal =
    (d : Definition) (who : Identity) (from to : ControlPoint) (s t : Store) (q r : PortState) (deeds : List Deed)
    (history : List PortEvent) → Runs d who from s q deeds history to t r → IsLegal q history r

-- All that an instance did over a port that is shared: its port is what one legal history of the standard's port makes of
-- the empty one, and what comes from outside in that history is just what its owner has drawn, in that order.
abbrev pub InstancesHaveHistories : Type 0
InstancesHaveHistories =
    (d : Definition) (who : Identity) (events : List Event) (place : ControlPoint) (s : Store) (owner : OwnerState)
    → HasRun true d who events place s owner
    → (history : List PortEvent) × IsLegal empty_port history owner.state
    × (outside_of history ≡ drawn_as owner.pid owner.drawn)
