use Rattle.std.proofs.Common.{◌∙◌, ap}
use Rattle.std.proofs.lemmas.List.{take_all}
use Rattle.run_record.specs.Record.{RecordValue}
use Rattle.sdl_command_line.specs.Outputs.{outputs_by_sender, outputs_in}
use Rattle.sdl_command_line.proofs.GrowthLemmas.{part_more}
use Rattle.sdl_command_line.proofs.expected.environment.outputs_by_sender.Goals as goal

pub loop-record-preserved : goal.loop-record-preserved
loop-record-preserved c =
    part_more (λ (trace : RecordValue). outputs_in c.args.system.now trace.pid 0 trace.events) _ _
    c.deref-record-items.result.now c.loop-record.record-index c.record-item.result c.record-item.result
    c.loop-record-test.true c.loop-record.invariant c.record-item.is c.in_ok-push_outputs.ensures

pub returns : goal.returns
returns c =
    c.loop-record.invariant
    ∙ ap (outputs_by_sender c.args.system.now)
    (take_all c.loop-record.record-index c.deref-record-items.result.now c.loop-record-test.false
    ∙ c.deref-record-items.ensures.value)
