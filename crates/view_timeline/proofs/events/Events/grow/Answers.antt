-- The last part is made longer, or there is one more.
use Rattle.std.proofs.Common.{List, arith, refl, subst, sym}
use Rattle.view_timeline.specs.Events.{Lengthens, made_longer}
use Rattle.view_timeline.proofs.NoteLemmas.{written_back}
use Rattle.view_timeline.specs.declared.moves.Move.{Move}
use Rattle.view_timeline.proofs.events.Events.grow.Goals as goal

pub returns-then-lengthen-clause-grows : goal.returns-then-lengthen-clause-grows
returns-then-lengthen-clause-grows c =
    let old = c.args.self.now.moves in
    let new = c.lengthen.new.moves in
    let part = c.args.part.now in
    let back =
    written_back old.items new old.len (omega (arith, old.ok))
    (omega (arith, c.lengthen.auto.moves, c.deref_mut.ensures.len)) in
    made_longer (c.if-lengthen.ensures.goes_on refl)
    (subst (λ (moves : List Move). Lengthens old.items moves part) (sym back)
    (subst (λ (moves : List Move). Lengthens moves new part) c.deref_mut.ensures.value
    (c.if-lengthen.ensures.longer refl)))
