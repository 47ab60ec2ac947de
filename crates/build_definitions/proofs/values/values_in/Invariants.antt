use Rattle.std.proofs.Common.{◌≡◌, ◌++◌, drop, map}
use Rattle.build_definitions.specs.Rows.{value_rows}
use Rattle.build_definitions.specs.Seen.{value_seen}
use Rattle.build_definitions.specs.Views.{parts_listed}
use Rattle.build_definitions.proofs.values.values_in.Given as goal

abbrev pub invariant-loop-placed : goal.invariant-loop-placed
invariant-loop-placed l =
    map value_seen l.values.table.items
    ++ value_rows l.values.synonyms l.values.variables (parts_listed (drop l.placed-index l.parts))
    ≡ value_rows 0 0 (parts_listed l.parts)
