use Rattle.std.proofs.Common.{◌∙◌, None, Some, ap, sym}
use Rattle.build_names.specs.Names.{names_in}
use Rattle.build_states.proofs.ContextLemmas.{found-list}
use Rattle.build_states.specs.Context.{listed_members, members_of}
use Rattle.build_states.proofs.stimuli.context.Context.list.Goals as goal

pub returns-in-None : goal.returns-in-None
returns-in-None c =
    let names = c.args.self.now.lists in
    found-list (members_of (listed_members c.args.self.now.members.now)) (names_in names.process)
    (names_in names.block) names.system.now c.args.text.now None (sym c.in-None.is ∙ c.get.ensures)

pub returns-in-Some : goal.returns-in-Some
returns-in-Some c =
    let names = c.args.self.now.lists in
    ap Some c.members_at.ensures
    ∙ found-list (members_of (listed_members c.args.self.now.members.now)) (names_in names.process)
    (names_in names.block) names.system.now c.args.text.now _ (sym c.in-Some.is ∙ c.get.ensures)
