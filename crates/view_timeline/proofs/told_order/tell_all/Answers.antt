-- One after the other is told.
use Rattle.std.proofs.Common.{arith, get_or, refl}
use Rattle.view_timeline.proofs.Telling.{tells-all, tells-before, tells-next, tells-none}
use Rattle.view_timeline.specs.Events.{done_of}
use Rattle.view_timeline.proofs.told_order.tell_all.Goals as goal

pub loop-number-init : goal.loop-number-init
loop-number-init c = record {
  keeps = λ records keeps. keeps;
  latest = λ records keeps latest. latest;
  told = λ records keeps. tells-none (done_of records c.args.events.now);
}

pub loop-number-preserved : goal.loop-number-preserved
loop-number-preserved c =
    let was = c.loop-number.invariant in
    let one = c.in_ok-told.ensures in
    let tellers = c.args.tellers.now in
    let i = c.loop-number.number-index in
    record {
      keeps = λ records keeps. one.keeps records (was.keeps records keeps);
      latest = λ records keeps latest.
          one.latest records (was.keeps records keeps) (was.latest records keeps latest);
      told = λ records keeps.
          tells-next tellers i (get_or tellers i 0) (done_of records c.args.events.now)
          (done_of records c.loop-number.events) (done_of records c.tell_line_or_event.new.events) (omega arith) refl
          (was.told records keeps)
          (one.told records (was.keeps records keeps) c.if-not-told.false);
    }

pub returns-then-not-told-clause-told : goal.returns-then-not-told-clause-told
returns-then-not-told-clause-told c = λ records keeps.
    let was = c.loop-number.invariant in
    let tellers = c.args.tellers.now in
    let i = c.loop-number.number-index in
    tells-before tellers i (get_or tellers i 0) (done_of records c.args.events.now)
    (done_of records c.loop-number.events) (done_of records c.tell_line_or_event.new.events) (omega arith) refl
    (was.told records keeps)
    (c.in_ok-told.ensures.not_told records c.if-not-told.true)

pub returns-then-not-told-clause-keeps : goal.returns-then-not-told-clause-keeps
returns-then-not-told-clause-keeps c = λ records keeps.
    c.in_ok-told.ensures.keeps records (c.loop-number.invariant.keeps records keeps)

pub returns-then-not-told-clause-latest : goal.returns-then-not-told-clause-latest
returns-then-not-told-clause-latest c = λ records keeps latest.
    let was = c.loop-number.invariant in
    c.in_ok-told.ensures.latest records (was.keeps records keeps) (was.latest records keeps latest)

pub returns-then-not-told-clause-held : goal.returns-then-not-told-clause-held
returns-then-not-told-clause-held c = λ records keeps latest.
    let was = c.loop-number.invariant in
    c.in_ok-told.ensures.held records (was.keeps records keeps) (was.latest records keeps latest) c.if-not-told.true

pub returns-clause-told : goal.returns-clause-told
returns-clause-told c = λ records keeps.
    tells-all c.args.tellers.now c.loop-number.number-index (done_of records c.args.events.now)
    (done_of records c.loop-number.events) (omega arith) (c.loop-number.invariant.told records keeps)
