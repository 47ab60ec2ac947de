-- The last part is made longer, or is of another record.
use Rattle.std.proofs.Common.{◌-◌, arith, inl, inr, length, refl}
use Rattle.view_timeline.proofs.Growing.{elsewhere-so, lengthens-so}
use Rattle.view_timeline.proofs.events.lengthen.Goals as goal

pub returns-then-begins-clause-apart : goal.returns-then-begins-clause-apart
returns-then-begins-clause-apart c = λ _. inl c.if-begins.true

pub returns-then-last-part-clause-apart : goal.returns-then-last-part-clause-apart
returns-then-last-part-clause-apart c = λ _.
    let moves = c.args.moves.now in
    let item = c.in-Some.ensures.item in
    let last = c.in-Some.last.now in
    inr (elsewhere-so moves (length moves - 1) last (omega (arith, item.3.0)) (item.3.1 last) c.args.part.now
    c.if-last-part.true)

pub returns-clause-longer : goal.returns-clause-longer
returns-clause-longer c = λ _.
    let moves = c.args.moves.now in
    let item = c.in-Some.ensures.item in
    let last = c.in-Some.last.now in
    lengthens-so moves (length moves - 1) last (omega (arith, item.3.0)) (item.3.1 last) _ c.args.part.now
    c.if-last-part.false refl
