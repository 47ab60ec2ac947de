-- Reading of stimuli. A reading is a device of the proofs: what the grammar spells, `sdl_tree` says.
use Rattle.std.specs.Prelude.{ℕ, Bool, if◌then◌else◌, List, [], ◌∷◌, Option, Err}
use Rattle.sdl_tree.specs.declared.mark.Mark.{Mark}
use Rattle.sdl_tree.specs.declared.mark.Mark.TheVariants as mark
use Rattle.sdl_tree.specs.declared.name.Spelling.{Spelling}
use Rattle.sdl_tree.specs.Tree.{Number, Expr, Transition, Input, Inputs, InputList, InputAll, Saved, SaveList, SaveAll, Condition, Stimulus, InputPart, PriorityInput, SavePart, ContinuousSignal}
use Rattle.sdl_tree.specs.Words.{Words, Spot}
use Rattle.sdl_parse.specs.Transitions.{trans}
use Rattle.parse_expressions.specs.Expressions.{expr}
use Rattle.parse_expressions.specs.Parts.{ended, sees_one, sig}
use Rattle.parse_expressions.specs.Reading.{Parser, Refusal, Refused, Barred, ◌⊗◌, behind, made, either, maybe, sees, sees_name, expect, name, number, separated, in_parentheses}

-- [NAME]
unfoldable pub variable : Parser (Option Spot)
variable = maybe sees_name name

abbrev pub input_with : Spot × List (Option Spot) → Input
input_with p = record { signal = p.0; variables = p.1 }

-- in1 = NAME ["(" [NAME] {"," [NAME]} ")"]
unfoldable pub in1 : Parser Input
in1 = made input_with (name ⊗ in_parentheses variable)

-- ins = "*" | in1 {"," in1}
unfoldable pub ins : Parser Inputs
ins = either (sees mark.Asterisk) (made InputAll (expect mark.Asterisk)) (made InputList (separated in1))

abbrev pub condition_with : Spelling × Expr → Condition
condition_with p = record { word = p.0; condition = p.1 }

-- ["provided" expr end]
unfoldable pub condition : ℕ → Parser (Option Condition)
condition depth = maybe (sees mark.Provided) (made condition_with (expect mark.Provided ⊗ ended (expr depth)))

abbrev pub input_part_with : Spelling × (Inputs × (Option Condition × Transition)) → Stimulus
input_part_with p = InputPart p.0 p.1.0 p.1.1.0 p.1.1.1

-- "input" ins end ["provided" expr end] trans
unfoldable pub input_part : ℕ → Parser Stimulus
input_part depth = made input_part_with (expect mark.Input ⊗ (ended ins ⊗ (condition depth ⊗ trans depth)))

-- x, which doesn't begin with this mark, where it is told so
abbrev pub unless_by : {A : Type 0} → (Words → Refusal) → Mark → Parser A → Parser A
unless_by told m p = λ i. if sees m i then Err (told i) else p i

abbrev pub unless : {A : Type 0} → Mark → Parser A → Parser A
unless m p = unless_by Refused m p

-- "priority" "input" in1 {"," in1} end
abbrev pub priority_head : Parser (Spelling × List Input)
priority_head = expect mark.Priority ⊗ behind mark.Input (ended (separated in1))

abbrev pub priority_input_with : (Spelling × List Input) × Transition → Stimulus
priority_input_with p = PriorityInput p.0.0 p.0.1 p.1

abbrev pub priority_input_by : (Words → Refusal) → ℕ → Parser Stimulus
priority_input_by told depth = made priority_input_with (priority_head ⊗ unless_by told mark.Provided (trans depth))

-- "priority" "input" in1 {"," in1} end trans, where a `provided` behind the end is barred
unfoldable pub priority_input : ℕ → Parser Stimulus
priority_input depth = priority_input_by Barred depth

-- "*" | sigs
unfoldable pub saved : Parser Saved
saved = either (sees mark.Asterisk) (made SaveAll (expect mark.Asterisk)) (made SaveList (separated sig))

abbrev pub save_with : Spelling × Saved → Stimulus
save_with p = SavePart p.0 p.1

-- "save" ("*" | sigs) end
unfoldable pub save_part : Parser Stimulus
save_part = made save_with (expect mark.Save ⊗ ended saved)

-- ["priority" NUMBER end]
unfoldable pub priority : Parser (Option Number)
priority = maybe (sees mark.Priority) (behind mark.Priority (ended number))

abbrev pub continuous_with : Spelling × (Expr × (Option Number × Transition)) → Stimulus
continuous_with p = ContinuousSignal p.0 p.1.0 p.1.1.0 p.1.1.1

-- "provided" expr end ["priority" NUMBER end] trans
unfoldable pub continuous_signal : ℕ → Parser Stimulus
continuous_signal depth = made continuous_with (expect mark.Provided ⊗ (ended (expr depth) ⊗ (priority ⊗ trans depth)))

unfoldable pub one_stimulus : ℕ → Parser Stimulus
one_stimulus depth =
    either (sees mark.Input) (input_part depth)
    (either (sees mark.Priority) (priority_input depth)
    (either (sees mark.Save) save_part (continuous_signal depth)))

abbrev pub stimulus_marks : List Mark
stimulus_marks = mark.Input ∷ mark.Priority ∷ mark.Save ∷ mark.Provided ∷ []

unfoldable pub begins_stimulus : Words → Bool
begins_stimulus i = sees_one stimulus_marks i

-- one of the stimuli, if one stands next
unfoldable pub stimulus : ℕ → Parser (Option Stimulus)
stimulus depth = maybe begins_stimulus (one_stimulus depth)
