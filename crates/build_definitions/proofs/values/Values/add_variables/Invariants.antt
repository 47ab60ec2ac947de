use Rattle.std.proofs.Common.{◌≡◌, ◌+◌, ◌++◌, drop, map, option_map}
use Rattle.build_definitions.specs.Rows.{variable_rows}
use Rattle.build_definitions.specs.Seen.{value_seen}
use Rattle.sdl_tree.specs.Views.{expr_value, names_value}
use Rattle.build_definitions.proofs.values.Values.add_variables.Given as goal

abbrev pub invariant-loop-name : goal.invariant-loop-name
invariant-loop-name l = record {
  values :
      map value_seen l.self.table.items
      ++ variable_rows l.scope l.sort (option_map (λ value. expr_value value.now) l.value) l.self.variables
      (names_value (drop l.name-index l.names))
      ≡ map value_seen l.initial.self.table.items
      ++ variable_rows l.scope l.sort (option_map (λ value. expr_value value.now) l.value) l.initial.self.variables
      (names_value l.names);
  synonyms : l.self.synonyms ≡ l.initial.self.synonyms;
  variables : l.self.variables ≡ l.initial.self.variables + l.name-index;
}
