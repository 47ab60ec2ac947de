use Rattle.std.proofs.Common.{◌∙◌}
use Rattle.threads_ports.specs.Instances.{can_live, with_one}
use Rattle.threads_ports.proofs.InstancesKept.{changed, kept_with, lent_at, said_of}
use Rattle.threads_ports.proofs.instances.processes.Processes.live.Goals as goal

pub invariant_of-self-2 : goal.invariant_of-self-2
invariant_of-self-2 c =
    let items = c.self.inside.rows.items in
    let old = c.in-Some.instances.now in
    let at = lent_at items c.args.process.0 old c.in-Some.ensures.item.3.0 c.in-Some.ensures.item.1 in
    kept_with items c.self.inside.least.items c.args.process.0 c.args.number old c.live.new.self c.least.result
    at c.least.ensures c.live.ensures.within c.self.invariant c.if-not-live.ensures.after

pub returns-clause-can : goal.returns-clause-can
returns-clause-can c =
    let items = c.self.inside.rows.items in
    let old = c.in-Some.instances.now in
    let at = lent_at items c.args.process.0 old c.in-Some.ensures.item.3.0 c.in-Some.ensures.item.1 in
    c.if-not-live.ensures.can
    ∙ said_of items c.args.self.now c.args.process old at c.self.view_is (can_live c.args.number)

pub returns-clause-after : goal.returns-clause-after
returns-clause-after c =
    let items = c.self.inside.rows.items in
    let old = c.in-Some.instances.now in
    let at = lent_at items c.args.process.0 old c.in-Some.ensures.item.3.0 c.in-Some.ensures.item.1 in
    changed items c.args.self.now c.args.process old at c.self.view_is
    (with_one c.args.number) c.live.new.self c.if-not-live.ensures.after
