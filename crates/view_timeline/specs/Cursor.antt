-- What of a record isn't told yet.
use Rattle.std.specs.Prelude.{◌≡◌, ℕ, List, ◌++◌, length}
use Rattle.run_record.specs.Event.{Event}
use Rattle.run_record.specs.Record.{RecordValue}

-- the number of the instance, how many of its events are told, and those that are left
pub record CursorValue : Type 0 where
  pub number : ℕ
  pub told : ℕ
  pub left : List Event

-- it is that of the record: what is left of the record's events comes behind those that are told
pub record IsAt (trace : RecordValue) (cursor : CursorValue) : Type 0 where
  pub number : cursor.number ≡ trace.pid
  pub first : List Event
  pub all : trace.events ≡ first ++ cursor.left
  pub told : length first ≡ cursor.told
