use Rattle.build_routes.proofs.ReturnLemmas.{none_receives}
use Rattle.build_routes.proofs.laws.none_receives_its_own.Goals as goal

pub returns : goal.returns
returns c = none_receives
