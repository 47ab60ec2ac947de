use Rattle.std.proofs.Common.{◌≡◌, ◌++◌, map, take}
use Rattle.build_definitions.specs.Rows.{synonym_row}
use Rattle.build_definitions.specs.Seen.{synonym_seen}
use Rattle.sdl_tree.specs.Views.{synonym_value}
use Rattle.build_definitions.proofs.values.push_synonyms.Given as goal

abbrev pub invariant-loop-definition : goal.invariant-loop-definition
invariant-loop-definition l =
    map synonym_seen l.table.items
    ≡ map synonym_seen l.initial.table.items
    ++ map (synonym_row l.scope) (map synonym_value (take l.definition-index l.synonyms))
