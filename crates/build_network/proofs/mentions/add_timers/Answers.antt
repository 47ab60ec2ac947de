use Rattle.std.proofs.Common.{◌≤◌, ◌<◌, ◌∙◌, ap, get_or, length, subst}
use Rattle.build_network.specs.Processes.{local_timers}
use Rattle.build_network.specs.Seen.{seen_of}
use Rattle.sdl_tree.specs.Views.{local_value}
use Rattle.build_network.proofs.BehindLemmas.{behind_all, behind_more}
use Rattle.build_network.proofs.mentions.add_timers.Goals as goal

pub loop-definition-preserved : goal.loop-definition-preserved
loop-definition-preserved c =
    let definitions = c.args.process.now.definitions.items in
    let i = c.loop-definition.definition-index in
    let one = c.definition-item.result in
    let same = c.deref-definition-items.ensures.value in
    behind_more (local_timers (seen_of c.args.seen.now)) local_value _ _ _ definitions i one
    (subst (λ list. i < length list) same c.loop-definition-test.true)
    (c.definition-item.is ∙ ap (λ list. get_or list i one) same) c.loop-definition.invariant c.in_ok-add_local.ensures

pub returns : goal.returns
returns c =
    let i = c.loop-definition.definition-index in
    behind_all (local_timers (seen_of c.args.seen.now)) local_value _ _ c.args.process.now.definitions.items i
    (subst (λ list. length list ≤ i) c.deref-definition-items.ensures.value c.loop-definition-test.false)
    c.loop-definition.invariant
