use Rattle.std.proofs.Common.{map, take}
use Rattle.std.specs.List.{AllZip}
use Rattle.build_definitions.specs.Seen.{synonym_seen}
use Rattle.build_definitions.specs.Definitions.{rows_of}
use Rattle.build_constants.specs.Synonyms.{IsSynonym}
use Rattle.build_constants.proofs.settled_synonyms.synonyms_of.Given as goal

abbrev pub invariant-loop-entry : goal.invariant-loop-entry
invariant-loop-entry l = AllZip (IsSynonym l.symbols (rows_of l.definitions).processes)
    (map synonym_seen (take l.entry-index l.definitions.synonyms.items)) l.synonyms.items
