-- An expiry is no signal.
use Rattle.threads_shared.proofs.HeardLines.{heard_alike}
use Rattle.threads_shared.proofs.environment.Environment.expire.Goals as goal

pub invariant_of-self : goal.invariant_of-self
invariant_of-self g c =
    let old = c.self.inside in (
      c.self.invariant.0,
      heard_alike old.lines.now old.line old.targets.items old.peers c.expire.new.peers c.expire.ensures.signals
          c.self.invariant.1,
      c.expire.ensures.ports,
    )

pub invariant_of-self-2 : goal.invariant_of-self-2
invariant_of-self-2 g c =
    let old = c.self.inside in (
      c.self.invariant.0,
      heard_alike old.lines.now old.line old.targets.items old.peers c.expire.new.peers c.expire.ensures.signals
          c.self.invariant.1,
      c.expire.ensures.ports,
    )
