use Rattle.std.proofs.Common.{flat_map, map, take}
use Rattle.build_definitions.specs.Parts.{synonym_sort_faults}
use Rattle.build_names.specs.Faults.{Notes}
use Rattle.sdl_tree.specs.Views.{synonym_value}
use Rattle.build_definitions.proofs.sorts.note_in_synonyms.Given as goal

abbrev pub invariant-loop-synonym : goal.invariant-loop-synonym
invariant-loop-synonym l = Notes l.initial.faults l.faults
    (flat_map synonym_sort_faults (map synonym_value (take l.synonym-index l.synonyms)))
