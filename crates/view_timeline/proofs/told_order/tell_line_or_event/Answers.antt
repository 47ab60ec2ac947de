-- A line of the script is no event; else one is told.
use Rattle.std.proofs.Common.{◌≡◌, ◌++◌, ◌∷◌, [], ap}
use Rattle.view_timeline.proofs.Telling.{if-told, tells-line, tells-one}
use Rattle.view_timeline.specs.Events.{TellsIn, done_of}
use Rattle.view_timeline.specs.Parts.{by_all}
use Rattle.view_timeline.proofs.NoteLemmas.{not_noted-so}
use Rattle.view_timeline.specs.Moves.{done_by}
use Rattle.view_timeline.proofs.told_order.tell_line_or_event.Goals as goal

pub returns-then-number-eq0-clause-told : goal.returns-then-number-eq0-clause-told
returns-then-number-eq0-clause-told c = λ records keeps yes.
    tells-line c.args.number (done_of records c.args.events.now) c.if-number-eq0.true

pub returns-clause-told : goal.returns-clause-told
returns-clause-told c = λ records keeps.
    let old = done_of records c.args.events.now in
    let new = done_of records c.tell.new.self in
    let number = c.args.number in
    if-told c.tell.result (by_all new ≡ by_all old ++ number ∷ []) (TellsIn (number ∷ []) old new)
    (tells-one number old new c.if-number-eq0.false) (c.tell.ensures.told records keeps)

pub returns-clause-not_told : goal.returns-clause-not_told
returns-clause-not_told c = λ records.
    let old = c.args.events.now in
    let new = c.tell.new.self in
    not_noted-so c.tell.result (new.moves ≡ old.moves) (done_of records new ≡ done_of records old)
    (ap (λ ms. done_by records ms.items)) c.tell.ensures.not_told
