use Rattle.std.proofs.Common.{◌≡◌, map, take}
use Rattle.sdl_report.specs.ShortName.{variable_short}
use Rattle.sdl_report.proofs.short_names.variable_names.Given as goal

abbrev pub invariant-loop-variable : goal.invariant-loop-variable
invariant-loop-variable l = l.names.items ≡ map variable_short (take l.variable-index l.variables)
