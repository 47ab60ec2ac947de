-- The condition of each continuous signal is false, as far as they are tried.
use Rattle.std.proofs.Common.{◌≡◌, Bool, List, Ok, Some, get_or, slice_get, subst}
use Rattle.std.proofs.lemmas.Option.{slice_get-get_or}
use Rattle.std.proofs.lemmas.Result.{err_from_is_err_and}
use Rattle.run_record.specs.Knowledge.{environment_of}
use Rattle.sdl_system.specs.declared.state.Continuous.{Continuous}
use Rattle.sdl_failures.proofs.ConditionLemmas.{before_more, before_none, number_at, stops_continuous}
use Rattle.sdl_failures.specs.Fails.{ComesTo, IsFalse, continuous_of}
use Rattle.sdl_failures.proofs.replayed.condition.try_continuous.Goals as goal

pub loop-one-init : goal.loop-one-init
loop-one-init c =
    before_none (IsFalse c.args.process.now (environment_of c.args.knowledge.now)) (continuous_of c.args.table.now)

pub returns-in_err-truth : goal.returns-in_err-truth
returns-in_err-truth c =
    let q = err_from_is_err_and c.from_residual.result c.from_residual.ensures.1 in
    let table = c.args.table.now in
    let items = c.deref-one-items.result.now in
    let i = c.loop-one.one-index in
    let nothing : Continuous = record { condition = record { 0 = 0 }; number = 0; begin = record { 0 = 0 } } in
    let one = get_or items i nothing in
    rw (q.1, q.2)
    (stops_continuous c.args.process.now (environment_of c.args.knowledge.now) c.args.why table one.condition i _
    (number_at (λ (s : Continuous). s.condition) table.continuous.items i one
    (subst (λ (xs : List Continuous). slice_get xs i ≡ Some one) c.deref-one-items.ensures.value
    (slice_get-get_or items i nothing c.loop-one-test.true)))
    c.loop-one.invariant c.in_err-truth.ensures.err)

pub loop-one-preserved : goal.loop-one-preserved
loop-one-preserved c =
    let process = c.args.process.now in
    let here = environment_of c.args.knowledge.now in
    let table = c.args.table.now in
    let items = c.deref-one-items.result.now in
    let i = c.loop-one.one-index in
    let nothing : Continuous = record { condition = record { 0 = 0 }; number = 0; begin = record { 0 = 0 } } in
    let one = get_or items i nothing in
    before_more (IsFalse process here) (continuous_of table) i one.condition c.loop-one.invariant
    (number_at (λ (s : Continuous). s.condition) table.continuous.items i one
    (subst (λ (xs : List Continuous). slice_get xs i ≡ Some one) c.deref-one-items.ensures.value
    (slice_get-get_or items i nothing c.loop-one-test.true)))
    (subst (λ (b : Bool). ComesTo process here one.condition (Ok b)) c.if-truth.false c.in_ok-truth.ensures.ok)
