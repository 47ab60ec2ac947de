use Rattle.std.proofs.Common.{[]}
use Rattle.port_model.specs.Ends.{AloneState, single}
use Rattle.sdl_interp.specs.Running.{seen}
use Rattle.sdl_interp.proofs.Instances.{stands_expired}
use Rattle.sdl_interp.proofs.instance.Instance+Alone.expire.Goals as goal

pub invariant_of-self : goal.invariant_of-self
invariant_of-self c =
    let i = c.self.inside in
    stands_expired i.position
    (seen (λ (a : AloneState). single a.pid a.state a.armed) (λ a. []) i.core)
    c.expire.result i.core.inbox c.expire.new.self c.args.fuse
    c.args.at c.expire.ensures.state c.expire.ensures.alive c.self.invariant
