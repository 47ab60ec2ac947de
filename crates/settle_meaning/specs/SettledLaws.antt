-- What a settled report is for the behaviours of its processes.
use Rattle.std.specs.Prelude.{ℕ, List}
use Rattle.run_record.specs.declared.record.Report.{Report}
use Rattle.run_semantics.specs.Behaves.{AreBehaviours}
use Rattle.sdl_script.specs.declared.script.ScriptLine.{ScriptLine}
use Rattle.sdl_system.specs.Behaviour.{Behaviour}
use Rattle.sdl_system.specs.System.{SystemValue}
use Rattle.settle_meaning.specs.Headline.{IsHeadline}
use Rattle.settle_meaning.specs.Report.{IsSettled}
use Rattle.settle_meaning.specs.Settled.{IsSettledReport}

-- A settled report is whole or cut, for all behaviours of the processes, and signals are missing only to numbers that the
-- script names.
abbrev pub SettledReportsAreSettled : Type 0
SettledReportsAreSettled =
    (ps : List Behaviour) (system : SystemValue) (lines : List ScriptLine) (limit : ℕ) (report : Report)
    → AreBehaviours system ps → IsSettledReport system lines limit report → IsSettled ps system lines limit report

-- It has the headline.
abbrev pub SettledReportsHaveHeadline : Type 0
SettledReportsHaveHeadline =
    (system : SystemValue) (lines : List ScriptLine) (limit : ℕ) (report : Report)
    → IsSettledReport system lines limit report → IsHeadline system report
