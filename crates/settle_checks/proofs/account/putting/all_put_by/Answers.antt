-- Enough was put to whom something is sent, and to whom it creates; to others nothing is sent.
use Rattle.settle_checks.proofs.AccountEnoughLemmas.{enough_all}
use Rattle.settle_checks.proofs.account.putting.all_put_by.Goals as goal

pub returns : goal.returns
returns g c = λ heard named.
    enough_all heard c.args.records.now c.args.from.now c.args.sum.now c.args.peers.now c.requires
    (c.in_ok-put_along.ensures heard named) (c.in_ok-put_to_born.ensures heard named)
