-- All was put to whom the flows lead.
use Rattle.settle_checks.proofs.SendLemmas.{all_put_to}
use Rattle.settle_checks.proofs.account.sending.are_all_put.Goals as goal

pub returns : goal.returns
returns g c = λ whole number.
    all_put_to c.args.flows.now c.loop-flow.flow-index c.args.totals.now c.args.peers.now c.requires
    c.loop-flow-test.false c.loop-flow.invariant number
