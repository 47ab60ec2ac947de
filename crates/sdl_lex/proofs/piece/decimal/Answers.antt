use Rattle.std.proofs.Common.{◌+◌, ◌-◌, ◌*◌, arith}
use Rattle.std.proofs.lemmas.List.Sums.{fold_more}
use Rattle.sdl_lex.proofs.DecimalLemmas.{decimal-take}
use Rattle.sdl_lex.proofs.piece.decimal.Goals as goal

pub returns-then-value-digit-clause-big : goal.returns-then-value-digit-clause-big
returns-then-value-digit-clause-big c =
    let digits = c.args.digits.now in
    let i = c.loop-b.b-index in
    let next = fold_more (λ value digit. 10 * value + (digit - 48)) 0 digits i 0 c.loop-b-test.true in
    let whole = decimal-take (i + 1) digits in
    omega (arith, next, whole, c.loop-b.invariant.value, c.if-value-digit.true)
