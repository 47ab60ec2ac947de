use Rattle.std.proofs.Common.{inr, sym, refl}
use Rattle.std.proofs.lemmas.Result.{err_from_is_err_and}
use Rattle.sdl_script.specs.Spelled.{plain}
use Rattle.sdl_script.proofs.MeaningLemmas.{arguments_fault, no_way, sent_from_env}
use Rattle.sdl_script.proofs.meaning.signal_of.Goals as goal

pub returns-in_err-to-clause-fault : goal.returns-in_err-to-clause-fault
returns-in_err-to-clause-fault c =
    let p = err_from_is_err_and c.from_residual.result c.from_residual.ensures.1 in
    rw (p.1, p.2)
    (no_way c.in_err-to.field-0.0 c.args.system.now (plain c.args.spelled.now) c.in-Some.name c.in-Some-signal.signal.now
    (sym c.in-Some.ensures, sym c.in-Some-signal.ensures) c.in_err-to.ensures.err)

pub returns-in_err-values-clause-fault : goal.returns-in_err-values-clause-fault
returns-in_err-values-clause-fault c =
    let p = err_from_is_err_and c.from_residual-in_err-values.result c.from_residual-in_err-values.ensures.1 in
    rw (p.1, p.2)
    (arguments_fault c.in_err-values.field-0.0 c.args.system.now (plain c.args.spelled.now)
    (λ none. (
      c.in-Some.name,
      c.in-Some-signal.signal.now,
      (sym c.in-Some.ensures, sym c.in-Some-signal.ensures),
      c.in_ok-to.ensures.reached,
      inr (λ values arguments. none values (rw (c.deref.ensures.value, c.deref-2.ensures.value) arguments)),
    ))
    c.in_err-values.ensures.err)

pub returns-clause-sent : goal.returns-clause-sent
returns-clause-sent c = (
  refl,
  c.in-Some-signal.signal.now,
  (sym c.in-Some.ensures, sym c.in-Some-signal.ensures),
  c.in_ok-to.ensures.reached,
  c.in_ok-to.ensures.ok,
  rw (← c.deref.ensures.value, ← c.deref-2.ensures.value) c.in_ok-values.ensures.ok,
)

pub returns-clause-from_env : goal.returns-clause-from_env
returns-clause-from_env c = sent_from_env c.args.system.now (plain c.args.spelled.now) _ (returns-clause-sent c)
