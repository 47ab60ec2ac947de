use Rattle.std.proofs.Common.{◌≡◌, map, take}
use Rattle.sdl_report.specs.ShortName.{process_names}
use Rattle.sdl_report.proofs.short_names.all_process_names.Given as goal

abbrev pub invariant-loop-process : goal.invariant-loop-process
invariant-loop-process l = l.names.items ≡ map process_names (take l.process-index l.processes)
