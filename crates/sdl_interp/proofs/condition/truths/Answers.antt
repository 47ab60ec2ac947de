use Rattle.std.proofs.Common.{add-one, length, refl}
use Rattle.std.proofs.lemmas.Option.{slice_get_read}
use Rattle.std.proofs.lemmas.Result.{err_from_is_err_and}
use Rattle.run_record.specs.Knowledge.{environment_of}
use Rattle.sdl_interp.proofs.ConditionLemmas.{condition_at, failed_at, truths_more}
use Rattle.sdl_interp.proofs.condition.truths.Goals as goal

pub returns-in_err-truth-clause-err : goal.returns-in_err-truth-clause-err
returns-in_err-truth-clause-err g c =
    let q = err_from_is_err_and c.from_residual.result c.from_residual.ensures.1 in
    let i = c.loop-enabling.enabling-index in
    let conditions = c.args.conditions.now in
    rw (q.1, q.2) (λ terms are.
    failed_at
    (environment_of c.args.knowledge.now)
    c.args.process.now conditions terms i c.enabling-item.result c.loop-enabling.truths.items _ are
    (slice_get_read conditions (length conditions) i c.enabling-item.result refl c.loop-enabling-test.true
    c.enabling-item.is)
    (c.loop-enabling.invariant terms are) c.in_err-truth.ensures.err)

pub loop-enabling-preserved : goal.loop-enabling-preserved
loop-enabling-preserved g c = λ terms are.
    let i = c.loop-enabling.enabling-index in
    let conditions = c.args.conditions.now in
    let meant = condition_at c.args.process.now conditions terms i c.enabling-item.result are
    (slice_get_read conditions (length conditions) i c.enabling-item.result refl c.loop-enabling-test.true
    c.enabling-item.is) in
    rw (add-one, c.in_default.ensures.items)
    (truths_more
    (environment_of c.args.knowledge.now)
    terms i meant.0 c.loop-enabling.truths.items c.in_ok-truth.truth meant.1 (c.in_ok-truth.ensures.ok meant.0 meant.2)
    (c.loop-enabling.invariant terms are))
