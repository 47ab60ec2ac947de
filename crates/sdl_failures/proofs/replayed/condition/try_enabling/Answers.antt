-- Each enabling condition has a truth, as far as they are tried.
use Rattle.std.proofs.Common.{◌≡◌, ◌≤◌, List, Some, length, refl, slice_get, subst}
use Rattle.std.proofs.lemmas.Option.{slice_get_read}
use Rattle.std.proofs.lemmas.Result.{err_from_is_err_and}
use Rattle.run_record.specs.Knowledge.{environment_of}
use Rattle.sdl_system.specs.declared.state.Enabling.{Enabling}
use Rattle.sdl_failures.proofs.ConditionLemmas.{before_all, before_more, before_none, has_truth, number_at, stops_enabling}
use Rattle.sdl_failures.specs.Fails.{HasTruth, enabling_of}
use Rattle.sdl_failures.proofs.replayed.condition.try_enabling.Goals as goal

pub loop-one-init : goal.loop-one-init
loop-one-init c =
    before_none (HasTruth c.args.process.now (environment_of c.args.knowledge.now)) (enabling_of c.args.table.now)

pub returns-in_err-truth_of-clause-err : goal.returns-in_err-truth_of-clause-err
returns-in_err-truth_of-clause-err c =
    let q = err_from_is_err_and c.from_residual.result c.from_residual.ensures.1 in
    let table = c.args.table.now in
    let items = c.deref-one-items.result.now in
    let i = c.loop-one.one-index in
    let one = c.one-item.result in
    rw (q.1, q.2)
    (stops_enabling c.args.process.now (environment_of c.args.knowledge.now) c.args.why table one.condition i _
    (number_at (λ (e : Enabling). e.condition) table.conditions.items i one
    (subst (λ (xs : List Enabling). slice_get xs i ≡ Some one) c.deref-one-items.ensures.value
    (slice_get_read items (length items) i one refl c.loop-one-test.true c.one-item.is)))
    c.loop-one.invariant c.in_err-truth_of.ensures.err)

pub loop-one-preserved : goal.loop-one-preserved
loop-one-preserved c =
    let process = c.args.process.now in
    let here = environment_of c.args.knowledge.now in
    let table = c.args.table.now in
    let items = c.deref-one-items.result.now in
    let i = c.loop-one.one-index in
    let one = c.one-item.result in
    before_more (HasTruth process here) (enabling_of table) i one.condition c.loop-one.invariant
    (number_at (λ (e : Enabling). e.condition) table.conditions.items i one
    (subst (λ (xs : List Enabling). slice_get xs i ≡ Some one) c.deref-one-items.ensures.value
    (slice_get_read items (length items) i one refl c.loop-one-test.true c.one-item.is)))
    (has_truth process here c.args.why one.condition _ c.in_ok-truth_of.ensures.ok)

pub returns-clause-ok : goal.returns-clause-ok
returns-clause-ok c =
    let table = c.args.table.now in
    let i = c.loop-one.one-index in
    before_all (HasTruth c.args.process.now (environment_of c.args.knowledge.now)) (λ (e : Enabling). e.condition)
    table.conditions.items i c.loop-one.invariant
    (subst (λ (xs : List Enabling). length xs ≤ i) c.deref-one-items.ensures.value c.loop-one-test.false)
