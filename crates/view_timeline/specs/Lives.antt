-- Who lives (Z.101: agent, create; Z.102: stop).
use Rattle.std.specs.Prelude.{ℕ, ◌==◌, ◌&&◌, ◌||◌, Bool, true, false, List, [], ◌∷◌, Some, if◌then◌else◌}
use Rattle.std.specs.List.{list_any}
use Rattle.port_model.specs.declared.values.pid.Pid as pid
use Rattle.port_model.specs.declared.values.pid.Pid.TheVariants as who
use Rattle.run_record.specs.Event as event
use Rattle.run_record.specs.Record.{RecordValue}
use Rattle.view_timeline.specs.Did.{Did}

abbrev pub is_null : pid.Pid → Bool
is_null who.Null = true
is_null _ = false

-- whether the system begins with the instance of this number: it has no creator
abbrev pub is_initial : List RecordValue → ℕ → Bool
is_initial records number = list_any (λ (trace : RecordValue). (trace.pid == number) && is_null trace.parent) records

-- whether the event is the create of this instance
abbrev pub creates : ℕ → event.Event → Bool
creates number (event.Create process (Some made)) = made == number
creates number _ = false

-- whether the event is the end of the instance that did it
abbrev pub is_end : event.Event → Bool
is_end (event.FailedAt at why) = true
is_end event.Stop = true
is_end (event.Failed why) = true
is_end _ = false

-- whether an instance lives once this was done, by whether it did before
abbrev pub lives_on : ℕ → Did → Bool → Bool
lives_on number d before =
    if creates number d.event then true else if is_end d.event && (d.by == number) then false else before

abbrev pub lives_after : ℕ → Bool → List Did → Bool
lives_after number before [] = before
lives_after number before (d ∷ more) = lives_after number (lives_on number d before) more

-- whether the instance of this number lives once all this was done
abbrev pub lives : List RecordValue → List Did → ℕ → Bool
lives records done number = lives_after number (is_initial records number) done

-- ---- who has begun

-- whether the instance of this number has begun once all this was done, ended or not: the system begins with it, or it is
-- created
abbrev pub has_begun : List RecordValue → List Did → ℕ → Bool
has_begun records done number = is_initial records number || list_any (λ (d : Did). creates number d.event) done

-- the same after this event, by whether it had before
abbrev pub begun_on : ℕ → event.Event → Bool → Bool
begun_on number event before = if creates number event then true else before
