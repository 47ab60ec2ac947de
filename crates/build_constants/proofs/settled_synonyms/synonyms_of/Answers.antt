use Rattle.build_definitions.specs.Seen.{synonym_seen}
use Rattle.build_definitions.specs.Definitions.{rows_of}
use Rattle.build_constants.specs.Synonyms.{IsSynonym}
use Rattle.build_constants.proofs.SynonymLemmas.{made-more}
use Rattle.build_constants.proofs.settled_synonyms.synonyms_of.Goals as goal

pub loop-entry-preserved : goal.loop-entry-preserved
loop-entry-preserved c =
    rw c.in_ok-push.ensures.items
    (made-more (IsSynonym c.args.symbols.now (rows_of c.args.definitions.now).processes) synonym_seen
    c.deref-entry-items.result.now c.args.definitions.now.synonyms.items c.deref-entry-items.ensures.value
    c.loop-entry.entry-index c.entry-item.result c.loop-entry-test.true c.entry-item.is
    c.loop-entry.synonyms.items c.synonym_of.result c.loop-entry.invariant c.synonym_of.ensures)
