use Rattle.build_routes.proofs.ReturnLemmas as lemma
use Rattle.build_routes.proofs.laws.returns_by_channels.Goals as goal

pub returns : goal.returns
returns c = lemma.returns
