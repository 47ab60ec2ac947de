use Rattle.std.proofs.Common.{◌≡◌, ◌+◌, ◌++◌, drop, map}
use Rattle.build_definitions.specs.Rows.{synonym_values}
use Rattle.build_definitions.specs.Seen.{value_seen}
use Rattle.sdl_tree.specs.Views.{synonym_value}
use Rattle.build_definitions.proofs.values.Values.add_synonyms.Given as goal

abbrev pub invariant-loop-synonym : goal.invariant-loop-synonym
invariant-loop-synonym l = record {
  values :
      map value_seen l.self.table.items
      ++ synonym_values l.scope l.self.synonyms (map synonym_value (drop l.synonym-index l.synonyms))
      ≡ map value_seen l.initial.self.table.items
      ++ synonym_values l.scope l.initial.self.synonyms (map synonym_value l.synonyms);
  synonyms : l.self.synonyms ≡ l.initial.self.synonyms + l.synonym-index;
  variables : l.self.variables ≡ l.initial.self.variables;
}
