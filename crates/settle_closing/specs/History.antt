-- The history of a port for the record of its instance (Z.101: agent, input port; Z.102: timer).
use Rattle.std.specs.Prelude.{◌≡◌, ◌⊎◌, ℕ, Bool, true, false, List, All, length}
use Rattle.input_port.specs.Counts.{signals_in}
use Rattle.port_model.specs.Ends.{OwnerState}
use Rattle.port_model.specs.declared.inbox.placed.Placed.{Placed}
use Rattle.port_model.specs.History.{IsLegal, PortEvent}
use Rattle.port_model.specs.Port.{PortState, empty_port}
use Rattle.port_model.specs.declared.values.value.Value.{Value}
use Rattle.run_record.specs.Event.{Event}
use Rattle.run_record.specs.Record.{RecordValue}
use Rattle.run_semantics.specs.Effect.{effects_of}
use Rattle.sdl_system.specs.Behaviour.{Behaviour}
use Rattle.sdl_system.specs.System.{SystemValue}
use Rattle.settle_meaning.specs.Closed.{AreDueAfter, ClosesAs, EndsIn, IsEnd}
use Rattle.settle_meaning.specs.Histories.{HaveSets, IsInTime, IsRunOn, puts_of}
use Rattle.settle_meaning.specs.Settled.{RestsAsItEnds}
use Rattle.threads_instance.specs.Doings.{children_of}
use Rattle.threads_instance.specs.declared.doings.Child.{Child}

-- The record is a run of its process on a legal history of its port. Just these signals are put there, in their order;
-- each expiry is in time and of a timer that was set; the record closes as the report says; and an instance that rests
-- stays at rest. The run began with these values, and has created these children.
pub record HasHistoryOf (ps : List Behaviour) (system : SystemValue) (whole : Bool) (end : ℕ) (trace : RecordValue)
    (drawn : List Placed) (given : List Value) (children : List Child) : Type 0 where
  pub history : List PortEvent
  pub port : PortState
  pub legal : IsLegal empty_port history port
  pub run : IsRunOn ps system trace history port
  pub puts : puts_of history ≡ signals_in drawn
  pub in_time : All IsInTime history
  pub sets : HaveSets history
  pub closes : ClosesAs whole end trace.events history port
  pub rests : RestsAsItEnds whole trace.events history port
  pub begins : run.values ≡ given
  pub created : children ≡ children_of (effects_of run.deeds)

-- ---- what is tested once all is drawn that was put

-- Nothing came that could wake it: the port lived as the record was closed, as many entries wait in the end as did then,
-- and no timer is due by the end.
pub record RestsStill (end : ℕ) (first owner : OwnerState) : Type 0 where
  pub lived : first.state.alive ≡ true
  pub waiting : length owner.state.waiting ≡ length first.state.waiting
  pub timers : AreDueAfter end owner.state.timers

-- A record with these events closes as it is to: in a whole run it ends with a stop or a failure, or the instance rests
-- still. In a run that is cut each does.
abbrev pub EndsAs : Bool → ℕ → List Event → OwnerState → OwnerState → Type 0
EndsAs true end events first owner = EndsIn IsEnd events ⊎ RestsStill end first owner
EndsAs false end events first owner = Unit {0}
