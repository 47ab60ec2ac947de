use Rattle.std.proofs.Common.{◌≡◌, take}
use Rattle.build_names.specs.Faults.{Notes}
use Rattle.build_states.specs.Answered.{answers_value}
use Rattle.build_states.specs.Listed.{mentions_listed}
use Rattle.build_states.specs.States.{twice_faults, with_mentions}
use Rattle.build_states.proofs.answers.Answers.add_mentions.Given as goal

abbrev pub invariant-loop-mention : goal.invariant-loop-mention
invariant-loop-mention l = record {
  added : answers_value l.self
      ≡ with_mentions (answers_value l.initial.self) (mentions_listed (take l.mention-index l.mentions));
  noted : Notes l.initial.faults l.faults
      (twice_faults (answers_value l.initial.self) (mentions_listed (take l.mention-index l.mentions)));
}
