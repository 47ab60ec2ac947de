use Rattle.std.proofs.Common.{◌+◌, ◌∙◌, arith, subst, sym, true≢false}
use Rattle.sdl_build.proofs.ListLemmas.{AreBelow, with-signal, without-signal}
use Rattle.build_routes.specs.SignalLists.{StandsFor}
use Rattle.sdl_build.proofs.context.lists.signals_of.Goals as goal
use Rattle.sdl_build.proofs.context.lists.signals_of.Goals.{then-has+in_ok-push, else-has}

pub loop-number-preserved : goal.loop-number-preserved
loop-number-preserved c =
    let lists = c.args.network.now.lists.items in
    let n = c.loop-number.number in
    let decides = c.requires c.args.list (record { 0 = n }) (omega (arith, c.loop-number-test.true)) in
    elim c.if-has.branch [
      | then-has+in_ok-push w ↦
          subst (λ signals. AreBelow (λ signal. StandsFor lists signal c.args.list) (n + 1) signals.items)
          (sym w.signals-is)
          (with-signal (λ signal. StandsFor lists signal c.args.list) n c.loop-number.signals.items
          w.push.new.self.items c.loop-number.invariant w.in_ok-push.ensures.items
          (decides.0 (c.has.ensures.0 w.if-has.true)))
      | else-has w ↦
          subst (λ signals. AreBelow (λ signal. StandsFor lists signal c.args.list) (n + 1) signals.items)
          (sym w.signals-is)
          (without-signal (λ signal. StandsFor lists signal c.args.list) n c.loop-number.signals.items
          c.loop-number.invariant
          (λ stands. true≢false (sym (c.has.ensures.1 (decides.1 stands)) ∙ w.if-has.false)))
    ]

pub returns : goal.returns
returns c = λ signal. (
  λ has.
      let below = (c.loop-number.invariant signal).0 has in
      (omega (arith, below.0, c.loop-number-test.false, c.loop-number.auto.number-end), below.1),
  λ both. (c.loop-number.invariant signal).1 (omega (arith, both.0, c.loop-number-test.false), both.1),
)
