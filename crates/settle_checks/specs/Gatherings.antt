-- Ports that gather their senders, record by record, while one place after the other is gathered (Z.101: input port).
use Rattle.std.specs.Prelude.{◌≡◌, ◌<◌, ◌≤◌, ℕ, List, length, slice_index_or}
use Rattle.port_model.specs.declared.values.item.Item.{Item}
use Rattle.run_record.specs.Record.{RecordValue}
use Rattle.settle_checks.specs.Account.{AllAt}
use Rattle.settle_checks.specs.Gathering.{GatheringState, PutNothing}
use Rattle.threads_ports.specs.Peers.{PeersState, put_to}

-- ---- whose ports they are

-- the port of a record, by its place and its number
pub record IsGatheringOf (k : ℕ) (trace : RecordValue) (gathering : GatheringState) : Type 0 where
  pub at : gathering.at ≡ k
  pub number : gathering.number ≡ trace.pid

-- so it is of the port of each record
pub record AreGatheringsOf (records : List RecordValue) (gatherings : List GatheringState) : Type 0 where
  pub long : length gatherings ≡ length records
  pub each : AllAt (λ k (one : GatheringState). (trace : RecordValue) → k < length records
      → trace ≡ slice_index_or records k trace → IsGatheringOf k trace one) gatherings

-- ---- what they have gathered

-- The port has gathered the senders of all places before this one: those after its last one have put nothing there.
abbrev pub HasGathered : (ℕ → ℕ → List Item) → ℕ → GatheringState → Type 0
HasGathered puts place gathering = PutNothing (puts gathering.number) gathering.next place

-- So it is, and these are left of the senders of the place: what it has put into the port they have put, unless the port
-- has gathered its sender.
pub record IsGatheredBut (puts : ℕ → ℕ → List Item) (place : ℕ) (left : PeersState) (gathering : GatheringState)
    : Type 0 where
  pub before : HasGathered puts place gathering
  pub rest : gathering.next ≤ place → put_to left gathering.number ≡ puts gathering.number place
