use Rattle.std.proofs.Common.{◌≡◌, List, Some, refl, slice_get, subst}
use Rattle.run_record.specs.Knowledge.{environment_of}
use Rattle.sdl_interp.proofs.ConditionLemmas.{item_read, told_err, told_ok}
use Rattle.sdl_system.specs.declared.expression.Expression.{Expression}
use Rattle.sdl_interp.proofs.condition.is_condition_true.Goals as goal

pub returns-clause-ok : goal.returns-clause-ok
returns-clause-ok g c =
    let here = environment_of c.args.knowledge.now in
    told_ok c.args.process.now c.args.number c.in-Some.condition.now here here
    (subst (λ (xs : List Expression). slice_get xs c.args.number.0 ≡ Some c.in-Some.condition.now) c.deref.ensures.value
    (item_read c.deref.result.now c.args.number.0 c.in-Some.condition c.in-Some.ensures.lookup))
    refl c.is_true.result c.is_true.ensures.ok

pub returns-clause-err : goal.returns-clause-err
returns-clause-err g c =
    let here = environment_of c.args.knowledge.now in
    told_err c.args.process.now c.args.number c.in-Some.condition.now here here
    (subst (λ (xs : List Expression). slice_get xs c.args.number.0 ≡ Some c.in-Some.condition.now) c.deref.ensures.value
    (item_read c.deref.result.now c.args.number.0 c.in-Some.condition c.in-Some.ensures.lookup))
    refl c.is_true.result c.is_true.ensures.err
