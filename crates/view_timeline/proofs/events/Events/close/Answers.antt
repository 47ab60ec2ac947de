-- How a record closes is told after all times; or something is left of it.
use Rattle.std.proofs.Common.{ap, refl, sym}
use Rattle.run_record.specs.Entry.{event_of}
use Rattle.view_timeline.proofs.Keeping.{up_to-same}
use Rattle.view_timeline.proofs.Hindrances.{left-closed, left-ended, left-open}
use Rattle.view_timeline.proofs.Nexts.{closes-none, closes-one, closing-misses_none, closing-to_begun, some-map, up_to-closed}
use Rattle.view_timeline.specs.Events.{HasLeft, done_of}
use Rattle.view_timeline.specs.Hindered.{IsLeft}
use Rattle.view_timeline.specs.Moves.{done_by, times}
use Rattle.view_timeline.specs.Traffic.{ledger_of}
use Rattle.view_timeline.proofs.events.Events.close.Goals as goal

pub returns-in_default-clause-closes : goal.returns-in_default-clause-closes
returns-in_default-clause-closes c = λ records keeps. closes-none _ _ refl

pub returns-then-not-is_closing-clause-closes : goal.returns-then-not-is_closing-clause-closes
returns-then-not-is_closing-clause-closes c = λ records keeps. closes-none _ _ refl

pub returns-then-not-is_closing-clause-left : goal.returns-then-not-is_closing-clause-left
returns-then-not-is_closing-clause-left c = λ records keeps.
    let next = c.in-Some.next in
    left-open records c.args.self.now keeps c.args.place.0 next c.in-Some.ensures.next
    (sym (c.if-not-is_closing.ensures next.values.now))

pub returns-then-not-lives-clause-closes : goal.returns-then-not-lives-clause-closes
returns-then-not-lives-clause-closes c = λ records keeps. closes-none _ _ refl

pub returns-then-not-lives-clause-left : goal.returns-then-not-lives-clause-left
returns-then-not-lives-clause-left c = λ records keeps.
    left-ended records c.args.self.now keeps c.args.place.0 c.in-Some.next c.in-Some.ensures.next
    (sym c.if-not-lives.ensures)

pub note-requires-clause-to_begun : goal.note-requires-clause-to_begun
note-requires-clause-to_begun c =
    let next = c.in-Some.next in
    closing-to_begun (event_of next.entry next.values.now) (ledger_of c.args.self.now.traffic)
    (sym (c.if-not-is_closing.ensures next.values.now))

pub returns-then-not-told-clause-up_to : goal.returns-then-not-told-clause-up_to
returns-then-not-told-clause-up_to c = λ records keeps upto.
    up_to-same _ _ _
    (ap (λ ms. times (done_by records ms.items)) (c.in_ok-told.ensures.not_told c.if-not-told.true)) upto

pub returns-then-not-told-clause-closes : goal.returns-then-not-told-clause-closes
returns-then-not-told-clause-closes c = λ records keeps.
    closes-none _ _ (ap (λ ms. done_by records ms.items) (c.in_ok-told.ensures.not_told c.if-not-told.true))

-- what closes a record takes nothing, so nothing that it takes is missing
pub returns-then-not-told-clause-left : goal.returns-then-not-told-clause-left
returns-then-not-told-clause-left c = λ records keeps.
    let next = c.in-Some.next in
    absurd (closing-misses_none next.number (event_of next.entry next.values.now) (ledger_of c.args.self.now.traffic)
    (sym (c.if-not-is_closing.ensures next.values.now)) (c.in_ok-told.ensures.missing c.if-not-told.true))

pub returns-clause-up_to : goal.returns-clause-up_to
returns-clause-up_to c = λ records keeps upto.
    let next = c.in-Some.next in
    up_to-closed next.number (event_of next.entry next.values.now) (done_of records c.args.self.now)
    (done_of records c.note.new.self) (c.in_ok-told.ensures.told records keeps c.if-not-told.false)
    (sym (c.if-not-is_closing.ensures next.values.now)) upto

pub returns-clause-closes : goal.returns-clause-closes
returns-clause-closes c = λ records keeps.
    let next = c.in-Some.next in
    closes-one (done_of records c.args.self.now) (done_of records c.note.new.self) next.number
    (event_of next.entry next.values.now) (sym (c.if-not-is_closing.ensures next.values.now))
    (c.in_ok-told.ensures.told records keeps c.if-not-told.false)

pub returns-clause-left : goal.returns-clause-left
returns-clause-left c = λ records keeps.
    let old = c.args.self.now in
    let new = c.note.new.self in
    let next = c.in-Some.next in
    some-map c.whose_next.result (HasLeft new c.args.place.0) (IsLeft records new.moves.items)
    (left-closed records old keeps c.args.place.0 next c.in-Some.ensures.next new
    (c.in_ok-told.ensures.keeps records keeps) (c.in_ok-told.ensures.told records keeps c.if-not-told.false)
    (sym (c.if-not-is_closing.ensures next.values.now)))
    c.whose_next.ensures.left
