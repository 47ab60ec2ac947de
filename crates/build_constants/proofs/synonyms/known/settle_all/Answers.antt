use Rattle.build_constants.proofs.KnownLemmas.{all-known}
use Rattle.build_constants.proofs.synonyms.known.settle_all.Goals as goal

pub returns-then-not-any : goal.returns-then-not-any
returns-then-not-any c =
    all-known c.args.synonyms.now c.settle_round.new.known.constants.items c.settle_round.new.known.settled.items
    c.in_ok-any.ensures.known (c.in_ok-any.ensures.stuck c.if-not-any.true)
