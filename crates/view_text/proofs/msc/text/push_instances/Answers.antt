use Rattle.std.proofs.Common.{[]}
use Rattle.sdl_report.proofs.GatheredLemmas.{text-more}
use Rattle.view_text.specs.MscText.{next_text}
use Rattle.view_text.proofs.msc.text.push_instances.Goals as goal

pub loop-record-preserved : goal.loop-record-preserved
loop-record-preserved c =
    text-more (next_text c.args.system.now) [] _ _ _ c.loop-record-test.true c.record-item.is _ _ _
    c.loop-record.invariant c.in_ok-push_next.ensures
