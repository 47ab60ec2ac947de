use Rattle.std.proofs.Common.{◌<◌, length, arith, sym, subst, ◌∙◌, ap, get_or}
use Rattle.std.specs.List.{Contains}
use Rattle.build_routes.specs.Mask.{Has}
use Rattle.build_routes.proofs.FlowLemmas.{begins_all, ends, goes_on_lent, goes_past, none_left, written_back}
use Rattle.build_routes.proofs.GraphLemmas.{row-read}
use Rattle.build_routes.proofs.network.graph.Graph.flow.Goals as goal

pub loop-node-init : goal.loop-node-init
loop-node-init c = begins_all c.args.self.now.rows.items c.args.column.now c.args.start.items c.in_ok-reached.reached.items c.in_ok-waiting.waiting.items
    (λ n k has. c.in_ok-waiting.ensures n k (subst (λ x. Has x n k) (sym c.deref.ensures.value) has))
    (omega (arith, c.in_ok-reached.ensures.size, c.len.ensures)) c.in_ok-reached.ensures.same

pub pass_all-requires : goal.pass_all-requires
pass_all-requires c = λ step has.
    let rows = c.args.self.now.rows.items in
    let node = c.in-Some.node in
    let within : node < length rows = omega (arith, c.if-node-len.true, c.len.ensures) in
    let at = c.deref-then-node-len-2.ensures.value ∙ row-read rows node c.index.result.now within c.index.ensures in
    let to : step.to < length rows = c.args.self.now.closed node step (subst (λ steps. Contains steps step) at has) in
    omega (arith, c.requires, c.deref_mut.ensures.value, c.deref_mut.ensures.len, c.loop-node.invariant.size)

pub loop-node-preserved-in-Continue-branch-3 : goal.loop-node-preserved-in-Continue-branch-3
loop-node-preserved-in-Continue-branch-3 c =
    let rows = c.args.self.now.rows.items in
    let node = c.in-Some.node in
    let within : node < length rows = omega (arith, c.if-node-len.true, c.len.ensures) in
    let at = c.deref-then-node-len-2.ensures.value ∙ row-read rows node c.index.result.now within c.index.ensures in
    goes_on_lent rows c.args.column.now c.args.start.items c.loop-node.reached.items c.deref_mut.result.now c.pass_all.new.reached _
    c.loop-node.waiting.items c.pop.new.self.items c.pass_all.new.waiting.items
    c.deref-then-node-len-2.result.now node c.mask_at-from.result
    c.loop-node.invariant c.in-Some.ensures.items (c.mask_at-from.ensures ∙ ap (λ x. get_or x node 0) c.deref-then-node-len.ensures.value) at
    c.deref_mut.ensures.value
    (written_back c.loop-node.reached.items c.pass_all.new.reached c.loop-node.reached.len (omega (arith, c.loop-node.reached.ok)) (c.in_ok-pass_all.ensures.size ∙ ap length c.deref_mut.ensures.value))
    c.in_ok-pass_all.ensures

pub loop-node-preserved : goal.loop-node-preserved
loop-node-preserved c =
    goes_past c.args.self.now.rows.items c.args.column.now c.args.start.items c.loop-node.reached.items
    c.loop-node.waiting.items c.pop.new.self.items c.in-Some.node
    c.loop-node.invariant c.in-Some.ensures.items (omega (arith, c.if-node-len.false, c.len.ensures))

pub returns : goal.returns
returns c =
    ends c.args.self.now.rows.items c.args.column.now c.args.start.items c.loop-node.reached.items c.loop-node.waiting.items
    c.loop-node.invariant (none_left c.loop-node.waiting.items (omega (arith, c.in_default.ensures.cases.0, c.loop-node.waiting.ok)))
