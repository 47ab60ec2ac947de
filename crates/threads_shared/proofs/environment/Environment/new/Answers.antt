-- At first nothing is heard, and there is no sender.
use Rattle.std.proofs.Common.{List, [], subst, sym}
use Rattle.sdl_system.specs.declared.route.Target.{Target}
use Rattle.threads_shared.proofs.HeardLines.{heard_none}
use Rattle.threads_shared.proofs.Sent.{ports_none}
use Rattle.threads_shared.specs.Environment.{IsHeardBy}
use Rattle.threads_shared.specs.Sending.{HavePorts}
use Rattle.threads_ports.specs.Peers.{PeersState}
use Rattle.threads_shared.proofs.environment.Environment.new.Goals as goal

pub invariant_of-result : goal.invariant_of-result
invariant_of-result g c =
    let lines = c.args.lines.now in
    let peers = c.new-2.result in (
      c.requires,
      subst (λ (targets : List Target). IsHeardBy lines 0 targets peers) (sym c.new.ensures.items)
          (subst (λ (senders : PeersState). IsHeardBy lines 0 [] senders) (sym c.new-2.ensures) (heard_none lines)),
      subst HavePorts (sym c.new-2.ensures) ports_none,
    )
