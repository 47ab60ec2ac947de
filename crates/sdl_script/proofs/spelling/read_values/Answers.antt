use Rattle.std.proofs.Common.{◌++◌, ◌∷◌, [], inl, inr, sym, ap, ◌∙◌, subst}
use Rattle.std.proofs.lemmas.Result.{err_from_is_err_and}
use Rattle.sdl_script.specs.Reading.{mark, IsTail}
use Rattle.sdl_script.proofs.ValueLemmas.{first_read, more_read, all_read, only_end, stuck, no_values, no_first}
use Rattle.sdl_script.proofs.spelling.read_values.Goals as goal

pub returns-then-not-eat-clause-only : goal.returns-then-not-eat-clause-only
returns-then-not-eat-clause-only c =
    subst (IsTail c.args.cursor.now) (sym c.if-not-eat.ensures.kept) (no_values c.args.cursor.now (sym c.if-not-eat.ensures.read))

pub loop-values-init : goal.loop-values-init
loop-values-init c =
    first_read c.args.cursor.now c.eat.new.self c.read_value.new.cursor c.push.new.self.items c.in_ok-read_value.field-0
    (sym c.if-not-eat.ensures.read) c.in_ok-read_value.ensures.read (c.in_ok-push.ensures.items ∙ ap (λ l. l ++ c.in_ok-read_value.field-0 ∷ []) c.new-values.ensures.items)

pub loop-values-preserved : goal.loop-values-preserved
loop-values-preserved c =
    rw c.in_ok-push-2.ensures.items
    (more_read c.args.cursor.now c.loop-values.cursor c.eat-in-loop-values.new.self c.read_value-in-loop-values.new.cursor c.loop-values.values.items c.in_ok-read_value-2.field-0
    c.loop-values.invariant (sym c.loop-values-test.ensures.read) c.in_ok-read_value-2.ensures.read)

pub returns-in_err-read_value-clause-err : goal.returns-in_err-read_value-clause-err
returns-in_err-read_value-clause-err c =
    let p = err_from_is_err_and c.from_residual.result c.from_residual.ensures.1 in
    rw (p.1, p.2, c.in_err-read_value.ensures.read.0)
    (no_first c.args.cursor.now c.eat.new.self (sym c.if-not-eat.ensures.read) c.in_err-read_value.ensures.read.1)

pub returns-in_err-read_value-2-clause-err : goal.returns-in_err-read_value-2-clause-err
returns-in_err-read_value-2-clause-err c =
    let p = err_from_is_err_and c.from_residual-in_err-read_value-2.result c.from_residual-in_err-read_value-2.ensures.1 in
    rw (p.1, p.2, c.in_err-read_value-2.ensures.read.0)
    (stuck c.args.cursor.now c.loop-values.cursor c.loop-values.values.items c.loop-values.invariant
    (inl (c.eat-in-loop-values.new.self, sym c.loop-values-test.ensures.read, c.in_err-read_value-2.ensures.read.1)))

pub returns-then-eat-clause-ok : goal.returns-then-eat-clause-ok
returns-then-eat-clause-ok c =
    all_read c.args.cursor.now c.loop-values.cursor c.eat-2.new.self c.loop-values.values.items c.loop-values.invariant
    (ap (mark 41) (sym c.loop-values-test.ensures.kept) ∙ sym c.if-eat.ensures.read)

pub returns-then-eat-clause-only : goal.returns-then-eat-clause-only
returns-then-eat-clause-only c =
    only_end c.args.cursor.now c.loop-values.cursor c.eat-2.new.self c.loop-values.values.items c.loop-values.invariant
    (ap (mark 41) (sym c.loop-values-test.ensures.kept) ∙ sym c.if-eat.ensures.read)

pub returns-else-eat-clause-err : goal.returns-else-eat-clause-err
returns-else-eat-clause-err c =
    stuck c.args.cursor.now c.loop-values.cursor c.loop-values.values.items c.loop-values.invariant
    (inr (sym c.loop-values-test.ensures.read, ap (mark 41) (sym c.loop-values-test.ensures.kept) ∙ sym c.if-eat.ensures.read))
