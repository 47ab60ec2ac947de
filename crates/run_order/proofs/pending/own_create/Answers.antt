use Rattle.run_order.proofs.Weaving.{other_created, own_created}
use Rattle.run_order.proofs.pending.own_create.Goals as goal

pub returns-in-Create : goal.returns-in-Create
returns-in-Create c =
    own_created c.args.effect c.in-Create.process c.in-Create.number c.in-Create.parent c.in-Create.values
    c.in-Create.is

pub returns : goal.returns
returns c = other_created c.args.effect c.in_default.not-Create
