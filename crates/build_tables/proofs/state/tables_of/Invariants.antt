use Rattle.std.proofs.Common.{map, take}
use Rattle.std.specs.List.{AllZip}
use Rattle.build_states.specs.Tabled.{table_value}
use Rattle.build_tables.specs.Linked.{IsTable}
use Rattle.build_tables.proofs.state.tables_of.Given as goal

abbrev pub invariant-loop-one : goal.invariant-loop-one
invariant-loop-one l = AllZip (IsTable l.parts.entries.now l.parts.valid.now l.parts.signals)
    (map table_value (take l.one-index l.said)) l.tables.items
