use Rattle.std.proofs.Common.{◌∙◌, Bool, List, Ok, ap, length, map, refl, subst, sym}
use Rattle.std.proofs.lemmas.Result.{err_from_is_err_and}
use Rattle.port_model.specs.declared.selection.Class.{Class}
use Rattle.sdl_interp.proofs.SelectionLemmas.{cannot_by_condition, cannot_for_memory, made_selects}
use Rattle.sdl_interp.specs.Condition.{are_conditions}
use Rattle.run_record.specs.declared.failure.Failure.TheVariants.{Memory}
use Rattle.run_semantics.specs.Leads.{Selecting}
use Rattle.sdl_system.specs.System.{SystemValue}
use Rattle.sdl_system.specs.declared.signal.Signal.{Signal}
use Rattle.sdl_interp.proofs.selection.select.Goals as goal

pub returns-in_err-truths-clause-err : goal.returns-in_err-truths-clause-err
returns-in_err-truths-clause-err g c =
    let q = err_from_is_err_and c.from_residual.result c.from_residual.ensures.1 in
    rw (q.1, q.2) (cannot_by_condition c.args.process.now c.args.table.now c.args.knowledge.now _
    (λ terms are. c.in_err-truths.ensures.err terms
    (ap (are_conditions c.args.process.now) c.deref.ensures.value ∙ are)))

pub returns-in_default-clause-err : goal.returns-in_default-clause-err
returns-in_default-clause-err g c =
    cannot_for_memory c.args.process.now c.args.table.now c.args.knowledge.now Memory refl

pub returns-in_err-classes-clause-err : goal.returns-in_err-classes-clause-err
returns-in_err-classes-clause-err g c =
    let q = err_from_is_err_and c.from_residual-in_err-classes.result c.from_residual-in_err-classes.ensures.1 in
    rw (q.1, q.2) (cannot_for_memory c.args.process.now c.args.table.now c.args.knowledge.now _
    c.in_err-classes.ensures.err)

pub returns-clause-ok : goal.returns-clause-ok
returns-clause-ok g c = λ d is n at.
    let known = c.args.knowledge.now in
    subst (λ (classes : List Class). Selecting d known.who known.port n known.store classes) (sym c.new.ensures)
    (made_selects c.args.process.now c.args.table.now known c.deref-2.result.now c.in_ok-classes.classes.items
    c.in-Ok.count
    (c.in-Ok.ensures.1 ∙ ap (λ (signals : List Signal). length signals) c.signals.ensures
    ∙ ap (λ (system : SystemValue). length system.signals) c.system.ensures)
    c.in_ok-classes.ensures.ok
    (λ terms are.
    c.in_ok-truths.ensures.ok terms (ap (are_conditions c.args.process.now) c.deref.ensures.value ∙ are)
    ∙ ap (λ (truths : List Bool). map Ok truths) (sym c.deref-2.ensures.value))
    d is n at)
