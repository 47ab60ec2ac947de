use Rattle.std.proofs.Common.{◌≡◌, take}
use Rattle.std.specs.List.{list_any}
use Rattle.build_states.specs.Answered.{answers_value}
use Rattle.build_states.specs.States.{is_answered}
use Rattle.build_states.proofs.answers.Answers.is_again.Given as goal

abbrev pub invariant-loop-subject : goal.invariant-loop-subject
invariant-loop-subject l = l.again ≡ list_any (is_answered (answers_value l.self)) (take l.subject-index l.subjects)
