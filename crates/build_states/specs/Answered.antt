-- What the answers of the code stand for.
use Rattle.std.specs.Prelude.{option_map}
use Rattle.build_states.specs.Listed.{rest_value}
use Rattle.build_states.specs.States as states
use Rattle.build_states.specs.declared.answers.Answers.{Answers}

abbrev pub answers_value : Answers → states.Answers
answers_value answers = record { named = answers.named; rest = option_map rest_value answers.rest }
