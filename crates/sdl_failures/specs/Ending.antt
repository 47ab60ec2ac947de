-- Whether an instance failed.
use Rattle.std.specs.Prelude.{Bool, List, [], ◌∷◌, Option, None, Some, is_some}
use Rattle.std.specs.List.{list_any}
use Rattle.run_record.specs.Event.{Event}
use Rattle.run_record.specs.Event as event
use Rattle.run_record.specs.Record.{RecordValue}
use Rattle.run_record.specs.declared.failure.Failure.{Failure}

-- by an event
abbrev pub failure_by : Event → Option Failure
failure_by (event.FailedAt at why) = Some why
failure_by (event.Failed why) = Some why
failure_by happened = None

-- by all of its events: the last of them tells
abbrev pub failure_in : List Event → Option Failure
failure_in [] = None
failure_in (happened ∷ []) = failure_by happened
failure_in (happened ∷ next ∷ rest) = failure_in (next ∷ rest)

-- whether an instance of these records failed
abbrev pub has_failed : List RecordValue → Bool
has_failed records = list_any (λ (trace : RecordValue). is_some (failure_in trace.events)) records
