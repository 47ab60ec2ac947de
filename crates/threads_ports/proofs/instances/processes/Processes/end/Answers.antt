use Rattle.std.proofs.Common.{◌∙◌}
use Rattle.threads_ports.specs.Instances.{InstancesValue, without_one}
use Rattle.threads_ports.specs.NumberSets.{is_in}
use Rattle.threads_ports.proofs.InstancesKept.{changed, kept_without, lent_at, said_of}
use Rattle.threads_ports.proofs.instances.processes.Processes.end.Goals as goal

pub invariant_of-self-2 : goal.invariant_of-self-2
invariant_of-self-2 c =
    let items = c.self.inside.rows.items in
    let old = c.in-Some.instances.now in
    let at = lent_at items c.args.process.0 old c.in-Some.ensures.item.3.0 c.in-Some.ensures.item.1 in
    kept_without items c.self.inside.least.items c.args.process.0 c.args.number old c.end.new.self c.least.result
    at c.least.ensures c.end.ensures.within c.self.invariant c.if-not-end.ensures.after

pub returns-clause-lived : goal.returns-clause-lived
returns-clause-lived c =
    let items = c.self.inside.rows.items in
    let old = c.in-Some.instances.now in
    let at = lent_at items c.args.process.0 old c.in-Some.ensures.item.3.0 c.in-Some.ensures.item.1 in
    c.if-not-end.ensures.lived
    ∙ said_of items c.args.self.now c.args.process old at c.self.view_is
    (λ (i : InstancesValue). is_in c.args.number i.living)

pub returns-clause-after : goal.returns-clause-after
returns-clause-after c =
    let items = c.self.inside.rows.items in
    let old = c.in-Some.instances.now in
    let at = lent_at items c.args.process.0 old c.in-Some.ensures.item.3.0 c.in-Some.ensures.item.1 in
    changed items c.args.self.now c.args.process old at c.self.view_is
    (without_one c.args.number) c.end.new.self c.if-not-end.ensures.after
