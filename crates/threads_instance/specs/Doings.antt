-- What an instance has done outside of itself, and whom it has created (Z.102: output, timer, create).
use Rattle.std.specs.Prelude.{Bool, List, [], ◌∷◌, map}
use Rattle.std.specs.List.{flat_map}
use Rattle.port_model.specs.declared.values.value.Value.{Value}
use Rattle.run_semantics.specs.Effect.{Arm, Create, Effect, Send}
use Rattle.threads_instance.specs.declared.doings.Child.{Child}
use Rattle.threads_instance.specs.declared.effect_list.Doing.{Doing}
use Rattle.threads_instance.specs.declared.effect_list.Doing.TheVariants.{Armed, Created, Sent}

-- what was done, with the values that it carries
abbrev pub effect_of : Doing → List Value → Effect
effect_of (Sent target name sender) values = Send target (record { name = name; values = values; sender = sender })
effect_of (Armed pid name arm due) values =
    Arm (record { pid = pid; key = record { name = name; values = values }; arm = arm; due = due })
effect_of (Created process number parent) values = Create process number parent values

abbrev pub effects_in : List (Doing × List Value) → List Effect
effects_in done = map (λ (one : Doing × List Value). effect_of one.0 one.1) done

-- whom an effect creates, with the values of its parameters
abbrev pub children_of_one : Effect → List Child
children_of_one (Create process number parent values) = record { number = number; values = values } ∷ []
children_of_one effect = []

abbrev pub children_of : List Effect → List Child
children_of effects = flat_map children_of_one effects

-- what a caller sees of it: all that was done, the children, and whether there is room for one more
pub record DoingsState : Type 0 where
  pub effects : List Effect
  pub children : List Child
  pub room : Bool
