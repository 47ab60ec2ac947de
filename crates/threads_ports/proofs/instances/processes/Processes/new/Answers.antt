use Rattle.std.proofs.Common.{ap, ◌∙◌, arith}
use Rattle.threads_ports.specs.Roster.{none_living}
use Rattle.threads_ports.proofs.Made.{made_all, made_more, made_none}
use Rattle.threads_ports.proofs.instances.processes.Processes.new.Goals as goal

pub loop-process-init : goal.loop-process-init
loop-process-init c = made_none _ _ _ c.in_ok-rows.ensures.items c.in_ok-least.ensures.items

pub invariant_of-result : goal.invariant_of-result
invariant_of-result c = c.loop-process.invariant.kept

pub returns : goal.returns
returns c =
    made_all _ c.loop-process.process-index _ _ c.loop-process.invariant (omega arith)
    ∙ ap none_living c.processes-process-items.ensures

pub loop-process-preserved : goal.loop-process-preserved
loop-process-preserved c =
    made_more _ _ _ _ _ _ _ _ c.loop-process.invariant c.loop-process-test.true c.process-item.is c.new.ensures.none
    c.in_ok-push.ensures.items c.in_ok-push-2.ensures.items
