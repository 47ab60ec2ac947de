use Rattle.std.proofs.Common.{◌≡◌, All, Some, flat_map, map, take}
use Rattle.build_names.specs.Faults.{Notes}
use Rattle.build_states.specs.Listed.{part_value}
use Rattle.build_states.specs.Shared.{IsKnown, IsOfName, table_at}
use Rattle.build_states.specs.States.{named_faults, tables_of}
use Rattle.build_states.specs.Tabled.{names_listed, table_value}
use Rattle.build_states.proofs.ShareLemmas.{HaveTables}
use Rattle.build_states.proofs.shared.share.Given as goal

abbrev pub invariant-loop-name : goal.invariant-loop-name
invariant-loop-name l = record {
  known : IsKnown (map part_value l.parts) l.outline.stars.items l.known (map table_value l.tables.items) l.faults;
  read : map (table_at (map table_value l.tables.items)) l.of_states.items
      ≡ map Some (tables_of (map part_value l.parts) (names_listed (take l.name-index l.names)));
  each : All (IsOfName (map part_value l.parts)) (map table_value l.tables.items);
  had : HaveTables (map part_value l.parts) l.known l.of_states.items (names_listed (take l.name-index l.names));
  noted : Notes l.initial.faults l.faults
      (flat_map (named_faults (map part_value l.parts)) (names_listed (take l.name-index l.names)));
}
