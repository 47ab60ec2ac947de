use Rattle.std.proofs.Common.{[], ◌++◌, codes}
use Rattle.std.specs.String.{string_bytes}
use Rattle.run_record.specs.Record.{RecordValue}
use Rattle.sdl_report.proofs.GatheredLemmas.{text-more}
use Rattle.view_text.specs.JsonText.{instance_json}
use Rattle.view_text.proofs.json.closing.push_instances.Goals as goal

pub loop-record-preserved : goal.loop-record-preserved
loop-record-preserved c =
    text-more (λ (trace : RecordValue). codes "," ++ instance_json c.args.system.now trace) [] c.in-Some.more.now
    c.loop-record.record-index c.record-item.result c.loop-record-test.true c.record-item.is
    (string_bytes c.push_instance.new.text) (string_bytes c.loop-record.text) (string_bytes c.push_next.new.text)
    c.loop-record.invariant c.in_ok-push_next.ensures
