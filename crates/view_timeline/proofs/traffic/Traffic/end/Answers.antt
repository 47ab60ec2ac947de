-- Who lived lives no longer, and the event has no link.
use Rattle.std.proofs.Common.{◌∙◌}
use Rattle.std.proofs.lemmas.Result.{on_ok_weaker}
use Rattle.view_timeline.proofs.NoteLemmas.{living-same, on-ok-always}
use Rattle.view_timeline.proofs.traffic.Traffic.end.Goals as goal

pub returns-clause-passed : goal.returns-clause-passed
returns-clause-passed c =
    on_ok_weaker c.pass.result
    (λ passed. record { links = passed.links; arrows = passed.arrows; rows = passed.rows })
    c.pass.ensures.passed

pub returns-clause-living : goal.returns-clause-living
returns-clause-living c =
    on-ok-always c.pass.result _
    (λ n. living-same _ _ c.pass.ensures.living n ∙ c.swap_remove.ensures.updates.0 n)
