use Rattle.std.proofs.Common.{get_or, ◌∙◌, ap}
use Rattle.build_routes.proofs.FlowLemmas.{zero_push}
use Rattle.build_routes.proofs.network.graph.padded.Goals as goal

pub loop-padded-preserved : goal.loop-padded-preserved
loop-padded-preserved c = λ n. ap (λ x. get_or x n 0) c.in_ok-push.ensures.items ∙ zero_push c.loop-padded.padded.items n ∙ c.loop-padded.invariant n
