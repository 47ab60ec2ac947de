use Rattle.build_flow.proofs.EndlessLaws.{endless-listed}
use Rattle.build_flow.proofs.laws.endless_is_listed.Goals as goal

pub returns : goal.returns
returns c = endless-listed
