-- Which instances of a run are asked for.
use Rattle.std.specs.Prelude.{Bool}
use Rattle.std.specs.List.{list_any}
use Rattle.run_record.specs.Record.{RecordValue}
use Rattle.sdl_engine.specs.declared.run.Run.{Run}
use Rattle.sdl_report.specs.Name.{process_name}
use Rattle.view_chart.specs.Selection.{is_one}
use Rattle.view_chart.specs.declared.selection.Wanted.{Wanted}

-- the instance of a record is one of those that are wanted
abbrev pub chooses : Run → Wanted → RecordValue → Bool
chooses run wanted trace = is_one trace.pid (process_name run.system trace.process) wanted

-- the run has an instance that is wanted
abbrev pub is_chosen : Run → Wanted → Bool
is_chosen run wanted = list_any (chooses run wanted) run.report.records.items
