use Rattle.std.proofs.Common.{sym}
use Rattle.port_model.proofs.Coherence.{coherent_is, coherent_removed}
use Rattle.port_model.proofs.Ports.{waits_once, fewer_sets, no_signal, state_without}
use Rattle.port_model.proofs.plain_port.PlainPort.reset.Goals as goal

pub invariant_of-self : goal.invariant_of-self
invariant_of-self c = (
  c.self.invariant.0,
  coherent_is _ _ _ _ c.forget.ensures c.remove.ensures.timers (coherent_removed c.args.key.now _ _ c.self.invariant.1),
  fewer_sets c.self.inside.sets c.args.key.now _ c.remove.ensures.armed c.self.invariant.2,
)

pub invariant_of-self-else-remove : goal.invariant_of-self-else-remove
invariant_of-self-else-remove c = (
  c.self.invariant.0,
  coherent_is _ _ _ _ (sym (no_signal c.args.key.now _ _ c.self.invariant.1 (sym c.if-remove.ensures.reply))) c.remove.ensures.timers
      (coherent_removed c.args.key.now _ _ c.self.invariant.1),
  fewer_sets c.self.inside.sets c.args.key.now _ c.remove.ensures.armed c.self.invariant.2,
)

pub returns-else-remove-clause-state : goal.returns-else-remove-clause-state
returns-else-remove-clause-state c =
    state_without c.args.key.now c.self.view_is (sym (no_signal c.args.key.now _ _ c.self.invariant.1 (sym c.if-remove.ensures.reply))) c.remove.ensures.timers

pub forget-requires : goal.forget-requires
forget-requires c = waits_once c.self.invariant.1 c.args.key.now
