use Rattle.std.proofs.Common.{◌≡◌, ◌++◌, drop}
use Rattle.build_names.specs.Labels.{names_listed}
use Rattle.sdl_build.specs.ProcessScope.{numbered_states}
use Rattle.sdl_build.proofs.context.tables.state_table.Given as goal

abbrev pub invariant-loop-name : goal.invariant-loop-name
invariant-loop-name l =
    l.table ++ numbered_states l.next (names_listed (drop l.name-index l.names))
    ≡ numbered_states 0 (names_listed l.names)
