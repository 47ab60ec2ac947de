-- The order that is found.
use Rattle.std.specs.Prelude.{List}
use Rattle.run_record.specs.declared.record.Report.{Report}
use Rattle.view_run.specs.Finder.{IsOrderOf, IsPartOf, job_with}
use Rattle.view_run.specs.declared.replay.found.Found.{Found}
use Rattle.view_run.specs.declared.replay.found.Found.TheVariants as found
use Rattle.sdl_script.specs.declared.script.ScriptLine.{ScriptLine}
use Rattle.sdl_system.specs.System.{SystemValue}

-- the report is told in one order, in which the events are told of these instances; or it is stuck, and what is told so
-- far is the beginning of a run
abbrev pub IsFound : SystemValue → List ScriptLine → Report → Found → Type 0
IsFound system lines report (found.Told tellers) = IsOrderOf (job_with system lines report) tellers.items
IsFound system lines report (found.Stuck tellers number) = IsPartOf (job_with system lines report) tellers.items
