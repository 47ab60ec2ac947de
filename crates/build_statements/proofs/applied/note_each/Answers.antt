use Rattle.build_statements.specs.Contexts.{context_of}
use Rattle.build_statements.specs.Faulty.{asked_faults}
use Rattle.sdl_tree.specs.Views.{expr_value}
use Rattle.build_statements.proofs.StepLemmas.{noted-next}
use Rattle.build_statements.proofs.applied.note_each.Goals as goal

pub loop-value-preserved : goal.loop-value-preserved
loop-value-preserved c =
    noted-next expr_value c.args.values.now c.loop-value.value-index c.value-item.result c.loop-value-test.true
    c.value-item.is (asked_faults (context_of c.args.context.now)) c.args.faults.now c.loop-value.faults
    c.resolve.new.faults c.loop-value.invariant c.in_ok-resolve.ensures.noted
