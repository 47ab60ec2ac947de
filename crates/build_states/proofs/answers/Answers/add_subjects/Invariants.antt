use Rattle.std.proofs.Common.{◌≡◌, take}
use Rattle.build_states.specs.Answered.{answers_value}
use Rattle.build_states.specs.Listed.{response_value}
use Rattle.build_states.specs.States.{with_subjects}
use Rattle.build_states.proofs.answers.Answers.add_subjects.Given as goal

abbrev pub invariant-loop-subject : goal.invariant-loop-subject
invariant-loop-subject l =
    answers_value l.self
    ≡ with_subjects (answers_value l.initial.self) (response_value l.response) (take l.subject-index l.subjects)
