use Rattle.std.proofs.Common.{IfSome, List, subst, sym}
use Rattle.std.proofs.lemmas.Result.{IfOk-weaker}
use Rattle.run_semantics.specs.Behaves.{AreBehaviours}
use Rattle.sdl_system.specs.Behaviour.{Behaviour}
use Rattle.serial_order.specs.Report.{IsSerialReport}
use Rattle.view_coverage.proofs.RunLemmas.{some-if-ok}
use Rattle.view_coverage.specs.Answers.{IsOfScript}
use Rattle.view_coverage.proofs.covered.answers.marked_report.Goals as goal

pub returns : goal.returns
returns c =
    let system = c.in-Ok-build.system in
    let lines = c.in-Ok-read_script.script.lines.items in
    let limit = c.args.run.now.limit in
    let is_of = IsOfScript c.args.run.now.script.now limit in
    subst (λ found. IfSome found is_of) (sym c.ok-2.ensures.value)
    (some-if-ok is_of c.run_serial.result
    (IfOk-weaker c.run_serial.result
    (λ report. (ps : List Behaviour) → AreBehaviours system ps → IsSerialReport ps system lines limit report) is_of
    (λ report ran. record {
      tree = _;
      system = system;
      lines = lines;
      built = c.in-Ok-build.ensures.built;
      says = c.in-Ok-read_script.ensures.read;
      ran = ran;
    }) c.run_serial.ensures.serial))
