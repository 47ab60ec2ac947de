-- One process more is full, and in the end all are.
use Rattle.std.proofs.Common.{◌≡◌, Option, Some, get_or, subst}
use Rattle.std.specs.Prelude.{IfSome}
use Rattle.std.proofs.lemmas.List.Elements.{All-more}
use Rattle.sdl_system.specs.declared.id.ProcessId.{ProcessId}
use Rattle.settle_meaning.specs.Identities.{HasNoNumber}
use Rattle.settle_checks.proofs.SummingLists.{all_done}
use Rattle.settle_checks.proofs.summing.nulls.are_all_full.Goals as goal

pub loop-process-preserved-then-is_again : goal.loop-process-preserved-then-is_again
loop-process-preserved-then-is_again c =
    let system = c.args.system.now in
    let records = c.args.records.now in
    let processes = c.args.processes.now in
    let i = c.loop-process.process-index in
    let none : ProcessId = record { 0 = 0 } in
    let same : c.loop-process.last ≡ Some (get_or processes i none) = c.is_again.ensures c.if-is_again.true in
    let here : HasNoNumber system records (get_or processes i none) =
    subst (λ (o : Option ProcessId). IfSome o (λ process. HasNoNumber system records process)) same
    c.loop-process.invariant.last in
    record {
      full = All-more (λ (process : ProcessId). HasNoNumber system records process) processes i none
          c.loop-process-test.true c.loop-process.invariant.full here;
      last = c.loop-process.invariant.last;
    }

pub loop-process-preserved : goal.loop-process-preserved
loop-process-preserved c =
    let system = c.args.system.now in
    let records = c.args.records.now in
    let processes = c.args.processes.now in
    let i = c.loop-process.process-index in
    let none : ProcessId = record { 0 = 0 } in
    let here : HasNoNumber system records (get_or processes i none) = c.is_full.ensures c.if-not-is_full.false in
    record {
      full = All-more (λ (process : ProcessId). HasNoNumber system records process) processes i none
          c.loop-process-test.true c.loop-process.invariant.full here;
      last = here;
    }

pub returns : goal.returns
returns c = λ all.
    all_done (λ (process : ProcessId). HasNoNumber c.args.system.now c.args.records.now process) c.args.processes.now
    c.loop-process.process-index c.loop-process-test.false c.loop-process.invariant.full
