-- What is kept of a run for the order of all (Z.101: system).
use Rattle.std.specs.Prelude.{◌≡◌, ◌<◌, ◌+◌, ◌∷◌, ℕ, List, length, map, slice_index_or, Option, Some}
use Rattle.std.specs.Global.{Vec}
use Rattle.std.specs.List.{AllZip}
use Rattle.port_model.specs.Ends.{OwnerState}
use Rattle.input_port.specs.Kept.{senders_of}
use Rattle.port_model.specs.declared.values.item.Item.{Item}
use Rattle.port_model.specs.declared.course.course.Course.{Course}
use Rattle.port_model.specs.declared.course.course.SenderInto.{SenderInto}
use Rattle.port_model.specs.declared.course.course_log.CourseLog.{CourseLog}
use Rattle.run_record.specs.Record.{RecordValue}
use Rattle.settle_checks.specs.Account.{AllAt, put_at}
use Rattle.settle_closing.specs.Left.{ClosingState}
use Rattle.settle_checks.specs.Gathering.{CountedState, IsCounted}
use Rattle.settle_run.specs.Parts.{logs_of, peers_of}
use Rattle.threads_ports.specs.Peers.{PeersState, senders_into}

-- ---- who put what was drawn

-- The port was counted, with the senders of so many places. Of each entry that was drawn from it the row has the number
-- of its sender, in the order in which they were put.
pub record HasPuts (put : ℕ → List Item) (places : ℕ) (first : OwnerState) (row : Vec ℕ) : Type 0 where
  pub owner : OwnerState
  pub counted : IsCounted put places first owner
  pub row_is : row.items ≡ senders_of owner.drawn

-- so it is of a port that was counted
abbrev pub HasPutsOf : (ℕ → ℕ → List Item) → (ℕ → OwnerState) → CountedState → Vec ℕ → Type 0
HasPutsOf puts owners counted row = HasPuts (puts counted.number) counted.places (owners counted.at) row

-- so it is of the port of each record
pub record ArePuts (puts : ℕ → ℕ → List Item) (owners : ℕ → OwnerState) (places : ℕ) (records : List RecordValue)
    (rows : List (Vec ℕ)) : Type 0 where
  pub long : length rows ≡ length records
  pub each : AllAt (λ k (row : Vec ℕ). (trace : RecordValue) → k < length records
      → trace ≡ slice_index_or records k trace → HasPuts (puts trace.pid) places (owners k) row) rows

-- so it is of the port of a closed instance, into which the senders of these places put
abbrev pub HasPutsInto : List PeersState → ClosingState → Vec ℕ → Type 0
HasPutsInto places closing row = HasPuts (put_at places closing.trace.pid) (length places) closing.owner row

-- ---- what was noted while the run went on

-- the words of a list that is kept
abbrev pub IsRowOf : Option (List ℕ) → Vec ℕ → Type 0
IsRowOf kept row = kept ≡ Some row.items

-- those that were noted of a record: of each step how many entries were drawn after it, and the versions of the roster
abbrev pub HasDrawnOf : CourseLog → Vec ℕ → Type 0
HasDrawnOf log = IsRowOf log.drawn

abbrev pub HasVersionsOf : CourseLog → Vec ℕ → Type 0
HasVersionsOf log = IsRowOf log.versions

-- ---- the rows of a course

-- the rows of a column
abbrev pub rows_of : List (Vec SenderInto) → List (List SenderInto)
rows_of rows = map (λ (row : Vec SenderInto). row.items) rows

-- The rows are those of these closed instances: who put what was drawn from the port of each once all was drawn, what is
-- kept of its course, and its senders, behind those of the environment.
pub record AreRowsOf (environment : PeersState) (closings : List ClosingState) (course : Course) : Type 0 where
  pub puts : AllZip (HasPutsInto (environment ∷ peers_of closings)) closings course.puts.items
  pub drawn : AllZip HasDrawnOf (logs_of closings) course.drawn.items
  pub versions : AllZip HasVersionsOf (logs_of closings) course.versions.items
  pub senders : rows_of course.senders.items ≡ map senders_into (environment ∷ peers_of closings)

-- Each column has a row for each of so many records; before these the senders have one for the environment.
pub record HasRows (records : ℕ) (course : Course) : Type 0 where
  pub puts_long : length course.puts.items ≡ records
  pub drawn_long : length course.drawn.items ≡ records
  pub versions_long : length course.versions.items ≡ records
  pub senders_long : length course.senders.items ≡ records + 1
