-- One record more has causes, and in the end all have.
use Rattle.std.proofs.Common.{All, List, subst}
use Rattle.sdl_system.specs.declared.id.ProcessId.{ProcessId}
use Rattle.settle_meaning.specs.Identities.{HasNoNumber}
use Rattle.settle_checks.proofs.CauseLemmas.{all_caused}
use Rattle.settle_checks.proofs.SummingLists.{all_done, all_step}
use Rattle.settle_checks.specs.declared.summing.summary.Summary.{Summary}
use Rattle.settle_checks.proofs.summing.nulls.are_caused.Goals as goal

pub loop-sum-preserved : goal.loop-sum-preserved
loop-sum-preserved c =
    let system = c.args.system.now in
    let records = c.args.records.now in
    all_step
    (λ (sum : Summary). All (λ (process : ProcessId). HasNoNumber system records process) sum.creating.refused.items)
    c.args.sums.now c.loop-sum.sum-index c.sum-item.result c.loop-sum-test.true c.sum-item.is c.loop-sum.invariant
    (subst (λ (l : List ProcessId). All (λ (process : ProcessId). HasNoNumber system records process) l)
    c.deref.ensures.value (c.are_all_full.ensures c.if-not-are_all_full.false))

pub returns : goal.returns
returns c = λ all.
    let system = c.args.system.now in
    let records = c.args.records.now in
    all_caused system records c.args.sums.now c.requires
    (all_done
    (λ (sum : Summary). All (λ (process : ProcessId). HasNoNumber system records process) sum.creating.refused.items)
    c.args.sums.now c.loop-sum.sum-index c.loop-sum-test.false c.loop-sum.invariant)
