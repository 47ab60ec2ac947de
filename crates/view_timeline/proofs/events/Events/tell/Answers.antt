-- The next event of an instance is told in time, or nothing is.
use Rattle.std.proofs.Common.{◌≡◌, ℕ, Option, false, true, refl, subst, sym}
use Rattle.std.specs.Prelude.{IfSome}
use Rattle.run_record.specs.Entry.{event_of}
use Rattle.view_timeline.proofs.Hindrances.{all-told, barred-held, held-kept, missing-held, no-record}
use Rattle.view_timeline.proofs.Keeping.{latest-kept, latest-told}
use Rattle.view_timeline.proofs.Nexts.{if-none}
use Rattle.view_timeline.specs.Events.{IsDone, done_of, has_number, reached}
use Rattle.view_timeline.specs.Moves.{IsLatest}
use Rattle.view_timeline.specs.declared.moves.RecordId.{RecordId}
use Rattle.view_timeline.proofs.events.Events.tell.Goals as goal

-- ---- nothing is told, since no event can be

pub returns-in_default-clause-held : goal.returns-in_default-clause-held
returns-in_default-clause-held c = λ records keeps latest no.
    let self = c.args.self.now in
    no-record records self keeps c.args.number
    (if-none c.in_ok-place.place ((place : ℕ) → has_number c.args.number (reached self place) ≡ false)
    c.in_default.not-Some c.in_ok-place.ensures.none)

pub returns-in_default-next_of-clause-held : goal.returns-in_default-next_of-clause-held
returns-in_default-next_of-clause-held c = λ records keeps latest no.
    let self = c.args.self.now in
    all-told records self keeps c.args.number c.in-Some.place.0
    (subst (λ (o : Option RecordId). IfSome o (λ (place : RecordId). has_number c.args.number (reached self place.0)
    ≡ true)) c.in-Some.is c.in_ok-place.ensures.found)
    (if-none c.next_of.result (IsDone self c.in-Some.place.0) c.in_default-next_of.not-Some c.next_of.ensures.none)

pub returns-then-not-may_tell-clause-held : goal.returns-then-not-may_tell-clause-held
returns-then-not-may_tell-clause-held c = λ records keeps latest no.
    let self = c.args.self.now in
    barred-held records self keeps c.args.number c.in-Some.place.0
    (subst (λ (o : Option RecordId). IfSome o (λ (place : RecordId). has_number c.args.number (reached self place.0)
    ≡ true)) c.in-Some.is c.in_ok-place.ensures.found)
    c.in-Some-next_of.next c.in-Some-next_of.ensures.next latest (c.if-not-may_tell.ensures.barred refl)

pub returns-then-not-told-clause-held : goal.returns-then-not-told-clause-held
returns-then-not-told-clause-held c = λ records keeps latest no.
    let self = c.args.self.now in
    held-kept records self c.note.new.self c.args.number (c.in_ok-told.ensures.not_told c.if-not-told.true)
    (c.in_ok-told.ensures.links c.if-not-told.true)
    (missing-held records self keeps c.args.number c.in-Some.place.0
    (subst (λ (o : Option RecordId). IfSome o (λ (place : RecordId). has_number c.args.number (reached self place.0)
    ≡ true)) c.in-Some.is c.in_ok-place.ensures.found)
    c.in-Some-next_of.next c.in-Some-next_of.ensures.next (c.in_ok-told.ensures.missing c.if-not-told.true))

pub returns-then-not-told-clause-latest : goal.returns-then-not-told-clause-latest
returns-then-not-told-clause-latest c = λ records keeps latest.
    latest-kept records c.args.self.now c.note.new.self (c.in_ok-told.ensures.not_told c.if-not-told.true)
    c.in_ok-told.ensures.latest latest

-- ---- the next event is told

pub returns-clause-latest : goal.returns-clause-latest
returns-clause-latest c = λ records keeps latest.
    let next = c.in-Some-next_of.next in
    let old = c.args.self.now in
    subst (λ (t : ℕ). IsLatest t (done_of records c.note.new.self))
    (sym (c.latest_after-latest.ensures next.values.now))
    (latest-told old.latest next.number (event_of next.entry next.values.now) (done_of records old)
    (done_of records c.note.new.self) (c.in_ok-told.ensures.told records keeps c.if-not-told.false)
    (c.if-not-may_tell.ensures.in_time refl) latest)
