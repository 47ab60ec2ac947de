use Rattle.std.proofs.Common.{[], ◌∙◌, ◌++◌, ap}
use Rattle.build_network.specs.Connects.{ids_of, named_paths, numbers_at}
use Rattle.build_network.proofs.BehindLemmas.{behind_all, behind_more}
use Rattle.build_names.specs.Names.{first_of}
use Rattle.build_names.specs.Spaces.{names_of}
use Rattle.sdl_tree.specs.Views.{name_value}
use Rattle.build_network.proofs.connects.named_paths.Goals as goal

pub loop-name-preserved : goal.loop-name-preserved
loop-name-preserved c =
    let channels = names_of c.args.channels.now c.args.scope in
    let numbers = c.args.numbers.now in
    behind_more (named_paths numbers channels) name_value [] _ _ c.args.names.now c.loop-name.name-index
    c.name-item.result c.loop-name-test.true c.name-item.is c.loop-name.invariant
    (c.in_ok-add_ids.ensures
    ∙ ap (λ found. c.loop-name.paths.items ++ ids_of found)
    (c.numbers_at-found.ensures ∙ ap (numbers_at numbers) (c.get_at.ensures ∙ ap (first_of channels) c.deref.ensures)))

pub returns : goal.returns
returns c =
    behind_all (named_paths c.args.numbers.now (names_of c.args.channels.now c.args.scope)) name_value [] _
    c.args.names.now c.loop-name.name-index c.loop-name-test.false c.loop-name.invariant
