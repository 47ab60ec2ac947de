-- When a serial report ends (Z.101: system).
use Rattle.std.specs.Prelude.{◌≡◌, ◌≤◌, ℕ, true, List, All}
use Rattle.std.specs.List.Sorted.{IsNonDecreasingBy}
use Rattle.serial_order.specs.Report.{IsSerialReport}
use Rattle.run_record.specs.Event.{Event}
use Rattle.run_record.specs.Record.{RecordValue}
use Rattle.run_record.specs.declared.record.Report.{Report}
use Rattle.run_semantics.specs.World.{time_after_one}
use Rattle.sdl_script.specs.declared.script.ScriptLine.{ScriptLine}
use Rattle.sdl_system.specs.Behaviour.{Behaviour}
use Rattle.sdl_system.specs.System.{SystemValue}

-- The event happened at this time at the latest, where it has a time. The time for which a timer is set is none of its
-- event.
abbrev pub IsBy : ℕ → Event → Type 0
IsBy end happened = time_after_one 0 happened ≤ end

-- No event of a report is past its end. Where the report is whole, that is so for lines whose times never fall, as
-- those of a script.
abbrev pub EndsAreNotBefore : Type 0
EndsAreNotBefore =
    (ps : List Behaviour) (system : SystemValue) (lines : List ScriptLine) (limit : ℕ) (report : Report)
    → IsSerialReport ps system lines limit report
    → (report.whole ≡ true → IsNonDecreasingBy (λ (line : ScriptLine). line.at) lines)
    → All (λ (trace : RecordValue). All (IsBy report.end) trace.events) report.records.items
