use Rattle.std.proofs.Common.{◌≡◌, ◌++◌, drop}
use Rattle.build_process.specs.Numbered.{numbered}
use Rattle.build_names.specs.Labels.{names_listed}
use Rattle.sdl_build.proofs.context.tables.label_table.Given as goal

abbrev pub invariant-loop-name : goal.invariant-loop-name
invariant-loop-name l =
    l.table ++ numbered l.next (names_listed (drop l.name-index l.names)) ≡ numbered 0 (names_listed l.names)
