use Rattle.build_statements.proofs.MadeLemmas.{body-made}
use Rattle.build_statements.proofs.nodes.laws.body_made.Goals as goal

pub returns : goal.returns
returns c = body-made
