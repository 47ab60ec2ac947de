use Rattle.std.proofs.Common.{◌≡◌, flat_map, map, take}
use Rattle.build_statements.specs.Contexts.{context_of}
use Rattle.build_expressions.specs.Answers.{answer_faults, answer_in}
use Rattle.build_names.specs.Faults.{Notes}
use Rattle.sdl_tree.specs.Views.{answer_value}
use Rattle.build_statements.proofs.nodes.decision.resolve_answers.Given as goal

abbrev pub invariant-loop-answer : goal.invariant-loop-answer
invariant-loop-answer l = record {
  answers : l.found.items ≡ map (answer_in (context_of l.context).scope l.question)
      (map answer_value (take l.answer-index l.answers));
  noted : Notes l.initial.faults l.faults
      (flat_map (answer_faults (context_of l.context).scope l.question)
      (map answer_value (take l.answer-index l.answers)));
}
