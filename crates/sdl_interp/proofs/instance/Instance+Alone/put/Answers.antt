use Rattle.std.proofs.Common.{[]}
use Rattle.port_model.specs.Ends.{AloneState, single}
use Rattle.sdl_interp.specs.Running.{seen}
use Rattle.sdl_interp.proofs.Instances.{stands_put}
use Rattle.sdl_interp.proofs.instance.Instance+Alone.put.Goals as goal

pub invariant_of-self : goal.invariant_of-self
invariant_of-self c =
    let i = c.self.inside in
    stands_put i.position
    (seen (λ (a : AloneState). single a.pid a.state a.armed) (λ a. []) i.core)
    c.put.result i.core.inbox c.put.new.self c.args.item
    c.put.ensures.state c.put.ensures.alive c.self.invariant
