use Rattle.laws_broken.proofs.RuleLemmas.{body-limits, network-limits}
use Rattle.laws_broken.proofs.limits.only_definitions_pass_limits.Goals as goal

pub returns-clause-network : goal.returns-clause-network
returns-clause-network c = network-limits

pub returns-clause-bodies : goal.returns-clause-bodies
returns-clause-bodies c = body-limits
