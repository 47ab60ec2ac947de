-- What is taken depends on what was got alone.
use Rattle.std.proofs.Common.{subst, sym}
use Rattle.run_record.specs.Entry.{event_of, got_of}
use Rattle.run_record.specs.declared.entry.Entry.{Entry}
use Rattle.settle_checks.proofs.TakingLemmas.{takes_discarded, takes_prior}
use Rattle.settle_checks.specs.Summary.{TakesAs}
use Rattle.settle_checks.proofs.summing.taking.taken_by.Goals as goal

pub returns-in-Consumed : goal.returns-in-Consumed
returns-in-Consumed c = λ values.
    subst (λ (e : Entry). TakesAs (event_of e values) c.taken_at.result) (sym c.in-Consumed.is)
    (c.taken_at.ensures values)

pub returns-in-Prior : goal.returns-in-Prior
returns-in-Prior c = λ values.
    subst (λ (e : Entry). TakesAs (event_of e values) c.taken_at-in-Prior.result) (sym c.in-Prior.is)
    (takes_prior c.in-Prior.at (got_of c.in-Prior.got values) c.taken_at-in-Prior.result
    (c.taken_at-in-Prior.ensures values))

pub returns-in-Discarded : goal.returns-in-Discarded
returns-in-Discarded c = λ values.
    subst (λ (e : Entry). TakesAs (event_of e values) c.taken_at-in-Discarded.result) (sym c.in-Discarded.is)
    (takes_discarded c.in-Discarded.at (got_of c.in-Discarded.got values) c.taken_at-in-Discarded.result
    (c.taken_at-in-Discarded.ensures values))
