-- The variable has this name, and no value.
use Rattle.std.proofs.Common.{◌≡◌, ◌∙◌, List, Some, ap, slice_get, subst, sym}
use Rattle.run_record.specs.Variables.{value_in}
use Rattle.run_record.specs.declared.evaluation.store.Store.{Store}
use Rattle.sdl_system.specs.declared.process.Variable.{Variable}
use Rattle.sdl_failures.proofs.ReadLemmas.{item_read}
use Rattle.sdl_failures.proofs.blame.blame_variable.Goals as goal

pub returns-in-None : goal.returns-in-None
returns-in-None c = record {
  variable = c.args.variable;
  named = c.in_ok-named.named.now;
  is = subst (λ (xs : List Variable). slice_get xs c.args.variable.0 ≡ Some c.in_ok-named.named.now)
      c.deref.ensures.value
      (item_read c.deref.result.now c.args.variable.0 c.in_ok-named.named c.in_ok-named.ensures.lookup);
  name_is = c.has_name.ensures c.if-not-has_name.false;
  none = ap (λ (s : Store). value_in s.variables c.args.variable) (sym c.store-store.ensures) ∙ sym c.in-None.ensures;
}
