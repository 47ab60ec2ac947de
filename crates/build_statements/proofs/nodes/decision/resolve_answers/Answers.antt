use Rattle.build_statements.specs.Contexts.{context_of}
use Rattle.build_expressions.specs.Answers.{answer_faults, answer_in}
use Rattle.sdl_tree.specs.Views.{answer_value}
use Rattle.build_statements.proofs.StepLemmas.{added-next, noted-next}
use Rattle.build_statements.proofs.nodes.decision.resolve_answers.Goals as goal

pub loop-answer-preserved : goal.loop-answer-preserved
loop-answer-preserved c =
    let scope = (context_of c.args.context.now).scope in
    let list = c.args.answers.now in
    let i = c.loop-answer.answer-index in
    let one = c.answer-item.result in
    record {
      answers =
          added-next answer_value list i one c.loop-answer-test.true c.answer-item.is
          (answer_in scope c.args.question) c.loop-answer.found.items c.push.new.self.items
          c.in_ok-resolve_answer.field-0 c.loop-answer.invariant.answers c.in_ok-resolve_answer.ensures.answer
          c.in_ok-push.ensures.items;
      noted =
          noted-next answer_value list i one c.loop-answer-test.true c.answer-item.is
          (answer_faults scope c.args.question) c.args.faults.now c.loop-answer.faults
          c.resolve_answer.new.faults c.loop-answer.invariant.noted c.in_ok-resolve_answer.ensures.noted;
    }
