use Rattle.std.proofs.Common.{◌∙◌, ap}
use Rattle.build_tables.specs.Grouped.{group_of}
use Rattle.build_tables.proofs.WaitingLemmas.{group_kept, groups-kept}
use Rattle.build_tables.proofs.waiting.Waiting.get.Goals as goal

pub returns-in-None : goal.returns-in-None
returns-in-None c =
    ap group_kept c.in-None.ensures.value
    ∙ groups-kept c.self.inside.by_condition.entries c.args.condition
    ∙ ap (λ groups. group_of groups c.args.condition) c.self.view_is

pub returns-in-Some : goal.returns-in-Some
returns-in-Some c =
    c.deref.ensures.value
    ∙ ap group_kept c.in-Some.ensures.value
    ∙ groups-kept c.self.inside.by_condition.entries c.args.condition
    ∙ ap (λ groups. group_of groups c.args.condition) c.self.view_is
