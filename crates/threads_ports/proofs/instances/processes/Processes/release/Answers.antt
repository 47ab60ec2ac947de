use Rattle.std.proofs.Common.{ap}
use Rattle.threads_ports.specs.Instances.{InstancesValue, without_reservation}
use Rattle.threads_ports.proofs.InstancesKept.{changed, kept_same, lent_at}
use Rattle.threads_ports.proofs.instances.processes.Processes.release.Goals as goal

pub invariant_of-self-2 : goal.invariant_of-self-2
invariant_of-self-2 c =
    let items = c.self.inside.rows.items in
    let old = c.in-Some.instances.now in
    let at = lent_at items c.args.process.0 old c.in-Some.ensures.item.3.0 c.in-Some.ensures.item.1 in
    kept_same items c.self.inside.least.items c.args.process.0 old c.release.new.self
    at (ap (λ (x : InstancesValue). x.living) c.release.ensures.after) c.release.ensures.within c.self.invariant

pub returns : goal.returns
returns c =
    let items = c.self.inside.rows.items in
    let old = c.in-Some.instances.now in
    let at = lent_at items c.args.process.0 old c.in-Some.ensures.item.3.0 c.in-Some.ensures.item.1 in
    changed items c.args.self.now c.args.process old at c.self.view_is
    without_reservation c.release.new.self c.release.ensures.after
