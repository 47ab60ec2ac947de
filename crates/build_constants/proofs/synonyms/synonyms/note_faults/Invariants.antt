use Rattle.std.proofs.Common.{flat_map, take}
use Rattle.build_names.specs.Faults.{Notes}
use Rattle.build_constants.specs.SettledSynonyms.{synonym_faults}
use Rattle.build_constants.proofs.synonyms.synonyms.note_faults.Given as goal

abbrev pub invariant-loop-synonym : goal.invariant-loop-synonym
invariant-loop-synonym l = Notes l.initial.faults l.faults
    (flat_map (synonym_faults l.constants) (take l.synonym-index l.synonyms))
