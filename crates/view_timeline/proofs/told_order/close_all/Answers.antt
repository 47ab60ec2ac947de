-- One record after the other is told to its end.
use Rattle.std.proofs.Common.{◌≡◌, ℕ, Option, arith, refl, subst}
use Rattle.std.specs.Prelude.{IfSome}
use Rattle.view_timeline.proofs.Nexts.{all-closed, closed-more, closes-more, closes-none, if-none}
use Rattle.view_timeline.specs.Hindered.{IsLeft}
use Rattle.view_timeline.specs.Events.{IsDone, done_of, reached}
use Rattle.view_timeline.proofs.told_order.close_all.Goals as goal

pub loop-place-init : goal.loop-place-init
loop-place-init c = record {
  keeps = λ records keeps. keeps;
  up_to = λ records keeps upto. upto;
  closes = λ records keeps. closes-none _ _ refl;
  closed = λ place lt. let no : ⊥ = omega (arith, lt) in absurd no;
}

pub loop-place-preserved : goal.loop-place-preserved
loop-place-preserved c =
    let was = c.loop-place.invariant in
    let old = c.loop-place.events in
    let new = c.close.new.self in
    let closed = c.in_ok-left.ensures in
    record {
      keeps = λ records keeps. closed.keeps records (was.keeps records keeps);
      up_to = λ records keeps upto. closed.up_to records (was.keeps records keeps) (was.up_to records keeps upto);
      closes = λ records keeps.
          closes-more (done_of records c.args.events.now) (done_of records old) (done_of records new)
          (was.closes records keeps) (closed.closes records (was.keeps records keeps));
      closed = closed-more old new c.loop-place.place was.closed
          (subst (λ (p : ℕ). (k : ℕ) → (k ≡ p → ⊥) → reached new k ≡ reached old k) c.in_ok-record.ensures
          closed.others)
          (subst (IsDone new) c.in_ok-record.ensures
          (if-none c.in_ok-left.left (IsDone new c.in_ok-record.record.0) c.in_default.not-Some closed.told));
    }

pub returns-in-Some-clause-left : goal.returns-in-Some-clause-left
returns-in-Some-clause-left c = λ records keeps.
    subst (λ (left : Option ℕ). IfSome left (IsLeft records c.close.new.self.moves.items)) c.in-Some.is
    (c.in_ok-left.ensures.left records (c.loop-place.invariant.keeps records keeps))

pub returns-in-Some-clause-keeps : goal.returns-in-Some-clause-keeps
returns-in-Some-clause-keeps c = λ records keeps.
    c.in_ok-left.ensures.keeps records (c.loop-place.invariant.keeps records keeps)

pub returns-in-Some-clause-up_to : goal.returns-in-Some-clause-up_to
returns-in-Some-clause-up_to c = λ records keeps upto.
    c.in_ok-left.ensures.up_to records (c.loop-place.invariant.keeps records keeps)
    (c.loop-place.invariant.up_to records keeps upto)

pub returns-in-Some-clause-closes : goal.returns-in-Some-clause-closes
returns-in-Some-clause-closes c = λ records keeps.
    closes-more (done_of records c.args.events.now) (done_of records c.loop-place.events)
    (done_of records c.close.new.self) (c.loop-place.invariant.closes records keeps)
    (c.in_ok-left.ensures.closes records (c.loop-place.invariant.keeps records keeps))

pub returns-clause-closes : goal.returns-clause-closes
returns-clause-closes c = c.loop-place.invariant.closes

pub returns-clause-all : goal.returns-clause-all
returns-clause-all c = λ records keeps.
    all-closed records c.args.events.now c.loop-place.events c.loop-place.place keeps
    (c.loop-place.invariant.keeps records keeps) (omega (arith, c.len-place-end.ensures)) c.loop-place.invariant.closed
