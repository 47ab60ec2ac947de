-- A run of a process on the history of its port (Z.101: agent).
use Rattle.std.specs.Prelude.{Bool, true, false, List, [], ◌∷◌, ◌++◌, filter, not}
use Rattle.port_model.specs.History.{Expire, IsLegal, PortEvent, PortStep, Put, Take}
use Rattle.port_model.specs.Laws.{IsFromOutside}
use Rattle.port_model.specs.Port.{PortState}
use Rattle.port_model.specs.declared.selection.Class.{Class}
use Rattle.port_model.specs.declared.taken.Taken.TheVariants.{Nothing}
use Rattle.run_record.specs.declared.evaluation.identity.Identity.{Identity}
use Rattle.run_record.specs.declared.evaluation.store.Store.{Store}
use Rattle.run_semantics.specs.Effect.{Deed}
use Rattle.run_semantics.specs.Leads.{IsQuiet, Leads, LeadsSilently}
use Rattle.run_semantics.specs.ControlPoint.{Definition, In, ControlPoint}
use Rattle.sdl_system.specs.declared.id.StateId.{StateId}

-- From a place, what is known there and a port, by these deeds and on this history of the port. A deed leads on with
-- its calls of the port; a step may have no event; at any moment a signal may be put or a timer expire; and in a state
-- a take may find nothing, where no continuous signal is true.
pub data Runs (d : Definition) (who : Identity) (from : ControlPoint) (s : Store) (q : PortState)
    : List Deed → List PortEvent → ControlPoint → Store → PortState → Type 0 where
  still : Runs d who from s q [] [] from s q
  acts : {deeds : List Deed} {history : List PortEvent} {at : ControlPoint} {mid : Store} {port : PortState}
      → Runs d who from s q deeds history at mid port → (deed : Deed) (to : ControlPoint) (t : Store) (r : PortState)
      → Leads d who port at mid deed to t → IsLegal port deed.calls r
      → Runs d who from s q (deeds ++ deed ∷ []) (history ++ deed.calls) to t r
  turns : {deeds : List Deed} {history : List PortEvent} {at : ControlPoint} {mid : Store} {port : PortState}
      → Runs d who from s q deeds history at mid port → (to : ControlPoint) (t : Store)
      → LeadsSilently d who port at mid to t → Runs d who from s q deeds history to t port
  hears : {deeds : List Deed} {history : List PortEvent} {at : ControlPoint} {mid : Store} {port : PortState}
      → Runs d who from s q deeds history at mid port → (heard : PortEvent) (r : PortState)
      → IsFromOutside heard → PortStep port heard r
      → Runs d who from s q deeds (history ++ heard ∷ []) at mid r
  waits : {deeds : List Deed} {history : List PortEvent} {n : StateId} {mid : Store} {port : PortState}
      → Runs d who from s q deeds history (In n) mid port → (classes : List Class) → IsQuiet d who port n mid classes
      → PortStep port (Take classes Nothing) port
      → Runs d who from s q deeds (history ++ Take classes Nothing ∷ []) (In n) mid port

-- what comes into a port from outside, and the calls of its owner
abbrev pub is_outside : PortEvent → Bool
is_outside (Put item) = true
is_outside (Expire key arm due at) = true
is_outside event = false

abbrev pub outside_of : List PortEvent → List PortEvent
outside_of history = filter is_outside history

abbrev pub own_of : List PortEvent → List PortEvent
own_of history = filter (λ event. not (is_outside event)) history
