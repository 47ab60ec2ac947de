-- The next event of a record is told, or nothing is.
use Rattle.std.proofs.Common.{◌≡◌, ◌∙◌, ℕ, Option, ap, arith, length, refl, set, slice_get, subst, sym, true≢false, if◌then◌else◌}
use Rattle.std.specs.Prelude.{IfSome}
use Rattle.run_record.specs.Entry.{event_of}
use Rattle.view_timeline.proofs.Keeping.{IsMade, done-made, keeps-made, keeps-same}
use Rattle.view_timeline.specs.Events.{Grows}
use Rattle.view_timeline.specs.declared.events.Reached.{Reached}
use Rattle.view_timeline.proofs.MoveLemmas.{get-set_other, get-within}
use Rattle.view_timeline.specs.Did.{begins, did, time_of}
use Rattle.view_timeline.specs.Traffic.{Notes, ledger_of}
use Rattle.view_timeline.specs.declared.moves.Move.{Move}
use Rattle.view_timeline.proofs.events.Events.note.Goals as goal

pub returns-then-not-noted-clause-keeps : goal.returns-then-not-noted-clause-keeps
returns-then-not-noted-clause-keeps c = λ records keeps.
    let old = c.args.self.now in
    keeps-same records old.moves.items old.reached.items (ledger_of old.traffic) (ledger_of c.note.new.self) keeps
    (c.in_ok-noted.ensures.not_noted c.if-not-noted.true)

pub returns-then-not-noted-clause-links : goal.returns-then-not-noted-clause-links
returns-then-not-noted-clause-links c = λ no. (c.in_ok-noted.ensures.not_noted c.if-not-noted.true).links

pub returns-then-not-noted-clause-missing : goal.returns-then-not-noted-clause-missing
returns-then-not-noted-clause-missing c = λ no. c.in_ok-noted.ensures.missing c.if-not-noted.true

pub index_mut-requires : goal.index_mut-requires
index_mut-requires c =
    let old = c.args.self.now in
    let there = get-within old.reached.items c.args.place.0 c.requires.next.one c.requires.next.is_there in
    let same = ap (λ r. length r.items) c.in_ok-grow.ensures.reached in
    omega (arith, there, same, old.reached.ok)

pub returns : goal.returns
returns c =
    let old = c.args.self.now in
    let next = c.args.next in
    let e = event_of next.entry next.values.now in
    let place = c.args.place.0 in
    let is_next = c.requires.next in
    let grown = c.grow.new.self in
    let now = ledger_of grown.traffic in
    let all = set grown.reached.items place c.reached_at-now.result in
    let part : Move = record {
      «record» = c.args.place;
      first = record { 0 = next.first };
      end = record { 0 = c.told.result };
      at = c.reached_at-now.result.began;
    } in
    let before : c.began.result ≡ is_next.one.began =
    subst (λ (o : Option Reached). IfSome o (λ (one : Reached). c.began.result ≡ one.began)) is_next.is_there
    c.began.ensures in
    let began_is : c.began_after-began.result ≡ (if begins e then time_of e else is_next.one.began) =
    c.began_after-began.ensures next.values.now ∙ ap (λ (b : Option ℕ). if begins e then time_of e else b) before in
    let made : IsMade old grown.moves.items all now place next c.began_after-began.result part = record {
      living = c.requires.living;
      notes = subst (λ t. Notes (did next.number e) (ledger_of old.traffic) (ledger_of t))
          (sym c.in_ok-grow.ensures.traffic) (c.in_ok-noted.ensures.noted c.if-not-noted.false);
      grows = subst (Grows old.moves.items grown.moves.items part) (c.begins.ensures next.values.now)
          c.in_ok-grow.ensures.grows;
      reached = ap (λ r. set r.items place c.reached_at-now.result) c.in_ok-grow.ensures.reached
          ∙ ap (set old.reached.items place) c.reached_at-now.ensures;
      record_is = refl;
      first_is = refl;
      end_is = c.told.ensures ∙ ap (λ (one : Reached). one.cursor.told) c.reached_at-now.ensures;
      at_is = ap (λ (one : Reached). one.began) c.reached_at-now.ensures;
    } in
    record {
      keeps = λ records keeps.
          keeps-made records old grown.moves.items all now place next c.began_after-began.result part keeps is_next
          began_is made;
      told = λ records keeps yes.
          done-made records old grown.moves.items all now place next c.began_after-began.result part keeps is_next
          began_is made;
      not_told = λ no. absurd (true≢false no);
      reached = λ no. absurd (true≢false no);
      links = λ no. absurd (true≢false no);
      missing = λ no. absurd (true≢false no);
      others = λ other apart.
          get-set_other grown.reached.items place other c.reached_at-now.result apart
          ∙ ap (λ r. slice_get r.items other) c.in_ok-grow.ensures.reached;
      latest = c.in_ok-grow.ensures.latest;
    }
