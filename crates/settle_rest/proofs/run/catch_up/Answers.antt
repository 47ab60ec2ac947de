use Rattle.settle_rest.proofs.run.catch_up.Goals as goal

pub returns-in_ok-catch_up-clause-reference : goal.returns-in_ok-catch_up-clause-reference
returns-in_ok-catch_up-clause-reference g c = (c.in_ok-catch_up.ensures.runs 0).0

pub returns-in_ok-catch_up-clause-lines : goal.returns-in_ok-catch_up-clause-lines
returns-in_ok-catch_up-clause-lines g c = (c.in_ok-catch_up.ensures.runs 0).1
