use Rattle.build_definitions.specs.Definitions.{rows_of}
use Rattle.build_constants.proofs.SynonymLemmas.{noted-of}
use Rattle.build_constants.proofs.settled_synonyms.constants_of.Goals as goal

pub returns-clause-noted : goal.returns-clause-noted
returns-clause-noted c =
    noted-of (rows_of c.args.definitions.now) c.args.symbols.now _ _ c.args.faults.now _
    c.synonym_constants.result
    c.deref.ensures.value c.in_ok-synonyms.ensures c.synonym_constants.ensures.noted
