-- Nobody is created yet.
use Rattle.settle_checks.proofs.CreatingLemmas.{creating_none}
use Rattle.settle_checks.proofs.summing.creating.Creating.new.Goals as goal

pub returns : goal.returns
returns c =
    creating_none (record { births = c.new.result; refused = c.new-2.result }) c.new.ensures.items c.new-2.ensures.items
