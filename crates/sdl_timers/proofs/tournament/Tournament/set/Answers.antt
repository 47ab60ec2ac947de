use Rattle.std.proofs.Common.{◌∙◌, ◌*◌, ◌+◌, ◌/◌, None, get_or, ap, arith}
use Rattle.std.proofs.lemmas.List.{get_or_default}
use Rattle.sdl_timers.specs.DueOrder.{earlier}
use Rattle.sdl_timers.specs.Tournament.{node_at}
use Rattle.sdl_timers.proofs.Playing.{begins, ends, plays}
use Rattle.sdl_timers.proofs.tournament.Tournament.set.Goals as goal

pub loop-node-init : goal.loop-node-init
loop-node-init c = rw (← c.self.view_is) (begins _ _ _ _ c.from-node.ensures c.ranges.entrant.fits c.self.invariant)

pub loop-node-preserved : goal.loop-node-preserved
loop-node-preserved c =
    let nodes = c.loop-node.self-inside.nodes in
    let half = c.loop-node.node / 2 in
    let long = c.loop-node.invariant.long in
    let below = c.loop-node.invariant.below in
    let left = get_or_default nodes (2 * half) c.index-self-node-in-loop-node.result None (omega arith) in
    let right = get_or_default nodes (2 * half + 1) c.index-self-node-in-loop-node-2.result None (omega arith) in
    plays _ _ _ _ c.loop-node.invariant c.loop-node-test.true
    (c.earlier.ensures ∙ ap (λ a. earlier a (get_or nodes (2 * half + 1) c.index-self-node-in-loop-node-2.result)) left
    ∙ ap (λ b. earlier (node_at nodes (2 * half)) b) right)

pub invariant_of-self : goal.invariant_of-self
invariant_of-self c = ends _ _ _ c.loop-node.invariant c.loop-node-test.false

pub returns : goal.returns
returns c = c.loop-node.invariant.leaves
