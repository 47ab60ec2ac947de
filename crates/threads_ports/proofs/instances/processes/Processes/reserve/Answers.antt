use Rattle.std.proofs.Common.{◌∙◌}
use Rattle.threads_ports.specs.Instances.{has_room, with_reservation}
use Rattle.threads_ports.proofs.InstancesKept.{changed_if, kept_same, living_reserved, lent_at, said_of}
use Rattle.threads_ports.proofs.instances.processes.Processes.reserve.Goals as goal

pub invariant_of-self-2 : goal.invariant_of-self-2
invariant_of-self-2 c =
    let items = c.self.inside.rows.items in
    let old = c.in-Some.instances.now in
    let at = lent_at items c.args.process.0 old c.in-Some.ensures.item.3.0 c.in-Some.ensures.item.1 in
    kept_same items c.self.inside.least.items c.args.process.0 old c.reserve.new.self
    at (living_reserved c.reserve.result old c.reserve.new.self c.reserve.ensures.after) c.reserve.ensures.within
    c.self.invariant

pub returns-clause-room : goal.returns-clause-room
returns-clause-room c =
    let items = c.self.inside.rows.items in
    let old = c.in-Some.instances.now in
    let at = lent_at items c.args.process.0 old c.in-Some.ensures.item.3.0 c.in-Some.ensures.item.1 in
    c.reserve.ensures.room
    ∙ said_of items c.args.self.now c.args.process old at c.self.view_is has_room

pub returns-clause-after : goal.returns-clause-after
returns-clause-after c =
    let items = c.self.inside.rows.items in
    let old = c.in-Some.instances.now in
    let at = lent_at items c.args.process.0 old c.in-Some.ensures.item.3.0 c.in-Some.ensures.item.1 in
    changed_if items c.args.self.now c.args.process old at c.self.view_is
    c.reserve.result with_reservation c.reserve.new.self c.reserve.ensures.after
