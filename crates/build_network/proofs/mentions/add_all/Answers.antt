use Rattle.build_network.specs.Processes.{timer_items}
use Rattle.build_network.specs.Seen.{seen_of}
use Rattle.sdl_tree.specs.Views.{timer_value}
use Rattle.build_network.proofs.BehindLemmas.{behind_all, behind_more}
use Rattle.build_network.proofs.mentions.add_all.Goals as goal

pub loop-timer-preserved : goal.loop-timer-preserved
loop-timer-preserved c =
    behind_more (timer_items (seen_of c.args.seen.now)) timer_value _ _ _ c.args.timers.now c.loop-timer.timer-index
    c.timer-item.result c.loop-timer-test.true c.timer-item.is c.loop-timer.invariant
    c.in_ok-add_timer.ensures

pub returns : goal.returns
returns c =
    behind_all (timer_items (seen_of c.args.seen.now)) timer_value _ _ c.args.timers.now c.loop-timer.timer-index
    c.loop-timer-test.false c.loop-timer.invariant
