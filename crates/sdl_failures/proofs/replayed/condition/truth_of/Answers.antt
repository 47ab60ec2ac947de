-- What a condition comes to.
use Rattle.std.proofs.Common.{◌≡◌, List, Some, slice_get, subst}
use Rattle.run_record.specs.Knowledge.{environment_of}
use Rattle.run_record.specs.Memory.{wants_memory}
use Rattle.run_record.specs.Value.{truth_at}
use Rattle.sdl_system.specs.Term.{term_of}
use Rattle.sdl_system.specs.declared.expression.Expression.{Expression}
use Rattle.sdl_failures.proofs.CauseLemmas.{meant-as}
use Rattle.sdl_failures.proofs.ConditionLemmas.{item_read, stops_as}
use Rattle.sdl_failures.proofs.replayed.condition.truth_of.Goals as goal

pub returns-in-Ok-clause-ok : goal.returns-in-Ok-clause-ok
returns-in-Ok-clause-ok c = record {
  condition = c.in-Some.condition.now;
  is = subst (λ (xs : List Expression). slice_get xs c.args.number.0 ≡ Some c.in-Some.condition.now)
      c.deref.ensures.value
      (item_read c.deref.result.now c.args.number.0 c.in-Some.condition c.in-Some.ensures.lookup);
  comes = c.in-Ok.ensures.ok;
}

pub returns-in-Err-clause-err : goal.returns-in-Err-clause-err
returns-in-Err-clause-err c =
    let here = environment_of c.args.knowledge.now in
    let term = term_of c.in-Some.condition.now in
    stops_as c.args.process.now here c.args.why c.args.number c.in-Err.found c.stopped_by.result c.stopped_by.ensures
    (λ same. record {
      condition = c.in-Some.condition.now;
      is = subst (λ (xs : List Expression). slice_get xs c.args.number.0 ≡ Some c.in-Some.condition.now)
          c.deref.ensures.value
          (item_read c.deref.result.now c.args.number.0 c.in-Some.condition c.in-Some.ensures.lookup);
      comes = meant-as (wants_memory term) (truth_at here term) c.in-Err.found c.args.why c.in-Err.ensures.err same
          c.requires;
    })
