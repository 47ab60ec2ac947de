-- Conditions are numbered in the order of the text: each stays, and more come behind it.
use Rattle.std.proofs.Common.{◌<◌, ◌≤◌, ◌++◌, ℕ, IfSome, List, [], ◌∷◌, Option, None, Some, arith, fold, length, length-append}
use Rattle.build_states.specs.Context.{Context}
use Rattle.build_states.specs.Reading.{Begun, Reading, condition_term, no_stimuli, number_of_condition, with_condition, with_part, with_stimulus}
use Rattle.sdl_system.specs.Term.{Term}
use Rattle.sdl_tree.specs.Tree as tree
use Rattle.sdl_tree.specs.Tree.{BodyPart, Condition, FreeAction, InputPart, PriorityInput, SavePart, StatePart, Stimulus}

same : (n : ℕ) → n ≤ n
same n = omega arith

pub within : (a b n : ℕ) → a ≤ b → b ≤ n → a ≤ n
within a b n less fits = omega (arith, less, fits)

stays : {A : Type 0} (xs ys : List A) → length xs ≤ length (xs ++ ys)
stays xs ys = omega (arith, length-append xs ys)

-- the number of the last of a list
pub last-among : {A : Type 0} (xs : List A) (x : A) (n : ℕ) → length (xs ++ x ∷ []) ≤ n → length xs < n
last-among xs x n fits = omega (arith, fits, length-append xs (x ∷ []))

module _ (context : Context) where
  pub condition-among : (conditions : List (Option Term)) (condition : Option Condition) (n : ℕ) →
      length (with_condition context conditions condition) ≤ n →
      IfSome (number_of_condition conditions condition) (λ number. number.0 < n)
  condition-among conditions None n fits = tt
  condition-among conditions (Some condition) n fits =
      last-among conditions (condition_term context condition.condition) n fits

  condition-stays : (conditions : List (Option Term)) (condition : Option Condition) →
      length conditions ≤ length (with_condition context conditions condition)
  condition-stays conditions None = same (length conditions)
  condition-stays conditions (Some condition) = stays conditions (condition_term context condition.condition ∷ [])

  stimulus-stays : (begun : Begun) (stimulus : Stimulus) →
      length begun.numbering.conditions ≤ length (with_stimulus context begun stimulus).numbering.conditions
  stimulus-stays begun (InputPart word inputs condition transition) =
      condition-stays begun.numbering.conditions condition
  stimulus-stays begun (PriorityInput word inputs transition) = same (length begun.numbering.conditions)
  stimulus-stays begun (SavePart word saved) = same (length begun.numbering.conditions)
  stimulus-stays begun (tree.ContinuousSignal word condition priority transition) =
      stays begun.numbering.conditions (condition_term context condition ∷ [])

  pub stimuli-stay : (begun : Begun) (list : List Stimulus) →
      length begun.numbering.conditions ≤ length (fold (with_stimulus context) begun list).numbering.conditions
  stimuli-stay begun [] = same (length begun.numbering.conditions)
  stimuli-stay begun (stimulus ∷ list) =
      within _ _ _ (stimulus-stays begun stimulus) (stimuli-stay (with_stimulus context begun stimulus) list)

  part-stays : (reading : Reading) (part : BodyPart) →
      length reading.numbering.conditions ≤ length (with_part context reading part).numbering.conditions
  part-stays reading (StatePart states stimuli) =
      stimuli-stay (record { numbering = reading.numbering; part = no_stimuli states }) stimuli
  part-stays reading (FreeAction word label transition) = same (length reading.numbering.conditions)

  pub parts-stay : (reading : Reading) (body : List BodyPart) →
      length reading.numbering.conditions ≤ length (fold (with_part context) reading body).numbering.conditions
  parts-stay reading [] = same (length reading.numbering.conditions)
  parts-stay reading (part ∷ body) =
      within _ _ _ (part-stays reading part) (parts-stay (with_part context reading part) body)
