use Rattle.std.proofs.Common.{refl}
use Rattle.view_text.proofs.Sent.{sent-more}
use Rattle.view_text.specs.Walk.{all_steps}
use Rattle.view_text.proofs.lost.sendings.Goals as goal

pub loop-line-preserved : goal.loop-line-preserved
loop-line-preserved c =
    let system = c.args.system.now in
    let report = c.args.report.now in
    let so_far = c.loop-line.invariant in
    let now = c.in_ok-go_to.ensures system report.records.items so_far.told so_far.left so_far.now in
    sent-more system report (all_steps report.records.items c.args.told.now) c.args.lines.now c.loop-line.line-index
    c.line-item.result c.loop-line.course c.go_to.new.self c.loop-line.sent.items c.send.new.sent.items so_far _
    c.loop-line-test.true c.line-item.is now (c.in_ok-send.ensures _ _ now) refl
