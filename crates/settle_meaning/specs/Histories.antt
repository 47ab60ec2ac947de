-- The history of a port, and that a record is a run on it (Z.101: agent, input port; Z.102: timer).
use Rattle.std.specs.Prelude.{◌≡◌, ◌≤◌, ◌⊎◌, ℕ, List, [], ◌∷◌, ◌++◌, Contains, Some, slice_get}
use Rattle.port_model.specs.History.{Expire, IsLegal, PortEvent, Put, Set}
use Rattle.port_model.specs.Port.{PortState, empty_port, expire_in}
use Rattle.port_model.specs.declared.values.item.Item.{Item}
use Rattle.port_model.specs.declared.values.timer_key.TimerKey.{TimerKey}
use Rattle.port_model.specs.declared.values.value.Value.{Value}
use Rattle.run_record.specs.declared.evaluation.store.Store.{Store}
use Rattle.run_record.specs.Record.{RecordValue}
use Rattle.run_semantics.specs.ControlPoint.{AtStart, ControlPoint}
use Rattle.run_semantics.specs.Effect.{Deed, events_of}
use Rattle.run_semantics.specs.Instance.{first_store}
use Rattle.run_semantics.specs.Runs.{Runs}
use Rattle.sdl_system.specs.Behaviour.{Behaviour}
use Rattle.sdl_system.specs.System.{SystemValue}
use Rattle.settle_meaning.specs.Identities.{identity_of}

-- ---- runs

-- The record is a run of its process on the history: its process is the one of that number, it begins before the start
-- under some values of the parameters and with an empty port, and leads to this port.
pub record IsRunOn (ps : List Behaviour) (system : SystemValue) (trace : RecordValue) (history : List PortEvent)
    (port : PortState) : Type 0 where
  pub p : Behaviour
  pub listed : slice_get ps trace.process.0 ≡ Some p
  pub values : List Value
  pub deeds : List Deed
  pub place : ControlPoint
  pub store : Store
  pub recorded : trace.events ≡ events_of deeds
  pub runs : Runs (record { system = system; behaviour = p }) (identity_of trace) AtStart (first_store p values)
      empty_port deeds history place store port

-- ---- puts

-- the signals that are put, in their order
abbrev pub put_of : PortEvent → List Item
put_of (Put item) = item ∷ []
put_of happened = []

abbrev pub puts_of : List PortEvent → List Item
puts_of [] = []
puts_of (happened ∷ rest) = put_of happened ++ puts_of rest

-- ---- expiries

-- an expiry is at its due time or later
abbrev pub IsInTime : PortEvent → Type 0
IsInTime (Expire key arm due at) = due ≤ at
IsInTime happened = Unit {0}

-- an expiry whose timer no set before it made does nothing
abbrev pub HaveSets : List PortEvent → Type 0
HaveSets history =
    (before later : List PortEvent) (key : TimerKey) (arm due at : ℕ) (port : PortState)
    → history ≡ before ++ Expire key arm due at ∷ later → IsLegal empty_port before port
    → Contains before (Set key due arm) ⊎ (expire_in port key arm due at ≡ port)
