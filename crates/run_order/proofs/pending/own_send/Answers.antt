use Rattle.run_order.proofs.Weaving.{other_sent, own_sent}
use Rattle.run_order.proofs.pending.own_send.Goals as goal

pub returns-in-Send : goal.returns-in-Send
returns-in-Send c = own_sent c.args.to c.args.effect c.in-Send.target c.in-Send.item c.in-Send.is

pub returns : goal.returns
returns c = other_sent c.args.to c.args.effect c.in_default.not-Send
