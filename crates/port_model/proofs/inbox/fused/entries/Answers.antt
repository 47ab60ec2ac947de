use Rattle.std.proofs.Common.{ap, length, rules, arith}
use Rattle.std.proofs.lemmas.List.Elements.{All-same, All-nil}
use Rattle.port_model.specs.Left.{HasItsFuse}
use Rattle.port_model.proofs.Leaving.{all_fused, entries_more}
use Rattle.port_model.proofs.inbox.fused.entries.Goals as goal

pub loop-got-init : goal.loop-got-init
loop-got-init c = (
  search rules,
  All-same (HasItsFuse c.args.pid c.args.timers.now.armed) _ _ c.requires.empty (All-nil (HasItsFuse c.args.pid c.args.timers.now.armed)),
  all_fused _ _ c.requires.coherent,
  search rules,
)

pub loop-got-preserved : goal.loop-got-preserved
loop-got-preserved c =
    let l = c.loop-got.invariant in
    let more = entries_more c.args.pid c.args.timers.now.timers c.args.timers.now.armed _ _ _ _ _ _ _ l.0 l.1 l.2
    c.in-Some.ensures.items c.entry.ensures.got c.entry.ensures.fuse c.push_reserved.ensures.items in
    let fewer = ap length c.in-Some.ensures.items in
    (more.0, more.1, more.2, omega (arith, l.3, c.push_reserved.ensures.len, c.push_reserved.ensures.capacity, fewer))
