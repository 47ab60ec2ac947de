-- Which values meet an answer of a decision (Z.102: decision).
use Rattle.std.specs.Prelude.{Bool, List, ◌&&◌}
use Rattle.std.specs.List.{list_any}
use Rattle.port_model.specs.declared.values.value.Value.{Value}
use Rattle.sdl_system.specs.Operation.{compared}
use Rattle.sdl_system.specs.declared.answer.Answer as answer
use Rattle.sdl_system.specs.declared.answer.Answer.TheVariants as kind
use Rattle.sdl_system.specs.declared.operation.Comparison.TheVariants.{Equal, LessOrEqual}

abbrev pub is_met : answer.Answer → Value → Bool
is_met (kind.Value expected) value = compared Equal value expected
is_met (kind.Range first last) value = compared LessOrEqual first value && compared LessOrEqual value last
is_met (kind.Compared comparison expected) value = compared comparison value expected

-- whether it meets one of several answers
abbrev pub meets_one : Value → List answer.Answer → Bool
meets_one value answers = list_any (λ one. is_met one value) answers
