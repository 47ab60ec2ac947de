use Rattle.std.proofs.Common.{arith}
use Rattle.port_model.specs.Backlog.{waiting_in}
use Rattle.port_model.proofs.Coherence.{coherent_is, coherent_set}
use Rattle.port_model.proofs.Ports.{all_wait_once, one_set_more, signal_out, state_set}
use Rattle.port_model.proofs.plain_port.PlainPort.set.Goals as goal

pub invariant_of-self-2 : goal.invariant_of-self-2
invariant_of-self-2 c =
    let left = signal_out c.args.key _ (waiting_in c.forget_signal.new.waiting) _ c.in-Ok.waited c.self.invariant.1 c.in-Ok.ensures.waited c.forget_signal.ensures in (
      omega (arith, c.self.invariant.0, c.if-self-eq-MOST_SETS.false),
      coherent_is _ _ _ _ left c.in-Ok.ensures.timers (coherent_set c.args.key c.new.result c.args.due _ _ c.self.invariant.1),
      one_set_more c.self.inside.sets c.args.key c.args.due _ (rw c.new.ensures at c.in-Ok.ensures.armed) c.self.invariant.2,
    )

pub returns-clause-ok : goal.returns-clause-ok
returns-clause-ok c =
    let left = signal_out c.args.key _ (waiting_in c.forget_signal.new.waiting) _ c.in-Ok.waited c.self.invariant.1 c.in-Ok.ensures.waited c.forget_signal.ensures in
    state_set c.args.key c.args.due c.self.view_is left (rw c.new.ensures at c.in-Ok.ensures.timers)

pub forget_signal-requires : goal.forget_signal-requires
forget_signal-requires c = all_wait_once c.self.invariant.1 c.in-Ok.waited
