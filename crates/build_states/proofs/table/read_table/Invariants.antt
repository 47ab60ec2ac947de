use Rattle.std.proofs.Common.{◌≡◌, map, take}
use Rattle.build_names.specs.Faults.{Notes}
use Rattle.build_states.specs.Listed.{part_value}
use Rattle.build_states.specs.Outlined.{parts_at}
use Rattle.build_states.specs.States.{state_faults, table_of}
use Rattle.build_states.specs.Tabled.{table_value}
use Rattle.build_states.proofs.table.read_table.Given as goal

abbrev pub invariant-loop-number : goal.invariant-loop-number
invariant-loop-number l = record {
  read : table_value l.table ≡ table_of (parts_at (map part_value l.parts) (take l.number-index l.numbers));
  noted : Notes l.initial.faults l.faults
      (state_faults (parts_at (map part_value l.parts) (take l.number-index l.numbers)));
}
