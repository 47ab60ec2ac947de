use Rattle.std.proofs.Common.{◌≡◌, ◌++◌, drop, map}
use Rattle.build_definitions.specs.Rows.{label_rows}
use Rattle.build_definitions.specs.Seen.{label_seen}
use Rattle.build_names.specs.Labels.{names_listed}
use Rattle.build_definitions.proofs.places.push_labels.Given as goal

abbrev pub invariant-loop-name : goal.invariant-loop-name
invariant-loop-name l =
    map label_seen l.table.items ++ label_rows l.process l.next (names_listed (drop l.name-index l.names))
    ≡ map label_seen l.initial.table.items ++ label_rows l.process 0 (names_listed l.names)
