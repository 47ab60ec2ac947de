use Rattle.std.proofs.Common.{◌∙◌, subst}
use Rattle.view_run.proofs.replay.found.find_order.Goals as goal
use Rattle.view_run.specs.Finder.{IsOrderOf, IsPartOf, Job}

pub returns-in-Whole : goal.returns-in-Whole
returns-in-Whole c =
    subst (λ (job : Job). IsOrderOf job c.in-Whole.tellers.items) (c.run.ensures ∙ c.in_ok-finder.ensures)
    (rw c.in-Whole.is at c.in_ok-tellers.ensures)

pub returns-in-Part : goal.returns-in-Part
returns-in-Part c =
    subst (λ (job : Job). IsPartOf job c.in-Part.told.items) (c.run.ensures ∙ c.in_ok-finder.ensures)
    (rw c.in-Part.is at c.in_ok-tellers.ensures)
