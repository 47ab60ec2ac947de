use Rattle.std.proofs.Common.{◌∙◌, ◌++◌, ◌∷◌, [], ap}
use Rattle.run_order.proofs.Living.{replicate_push}
use Rattle.run_order.proofs.roster.Roster.new.Goals as goal
use Rattle.run_order.specs.Roster.{RosterValue}

pub loop-preserved : goal.loop-preserved
loop-preserved c =
    c.in_ok-add_process.ensures ∙ ap (λ (roster : RosterValue). roster ++ [] ∷ []) c.loop.invariant
    ∙ replicate_push c.loop.counter []
