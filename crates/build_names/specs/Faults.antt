-- Faults of a specification, their order, and which of them is told.
use Rattle.std.specs.Prelude.{◌≡◌, ℕ, ◌==◌, ◌&&◌, ◌||◌, Bool, true, false, List, [], ◌∷◌, Option, None, Some, fold, nat_lt, slice_get, if◌then◌else◌}
use Rattle.sdl_lex.specs.declared.place.Place.{Place}
use Rattle.sdl_tree.specs.Mark.{spelled}
use Rattle.sdl_tree.specs.Words.{Spot}
use Rattle.sdl_tree.specs.declared.mark.Mark.{Mark}
use Rattle.sdl_tree.specs.declared.name.Spelling.{Spelling}
use Rattle.build_names.specs.declared.faults.fault.Fault.{Fault}
use Rattle.build_names.specs.declared.faults.fault.Rule.{Rule}
use Rattle.build_names.specs.declared.faults.fault.Rule.TheVariants.{Unknown, Duplicate, Sort, TwiceInState, NoState, NoLabel, NoRoute, BadCount, NoEnd, Limit}
use Rattle.build_names.specs.declared.faults.fault.Token.{Token}

-- a rule that is broken, with the text of the word at which it is told, and where that stands
pub record Diagnostic : Type 0 where
  pub rule : Rule
  pub text : List ℕ
  pub place : Place

-- a keyword as it stands in the text
abbrev pub mark_word : Mark → Spelling → Spot
mark_word mark word = record { text = spelled mark word.case; place = word.place }

abbrev pub diagnostic_at : Rule → Spot → Diagnostic
diagnostic_at rule word = record { rule = rule; text = word.text; place = word.place }

-- the word at which it is told
abbrev pub diagnostic_word : Diagnostic → Spot
diagnostic_word fault = record { text = fault.text; place = fault.place }

-- ---- the order

-- of two faults at one place the one whose rule has the smaller number is told
abbrev pub rank : Rule → ℕ
rank Unknown = 0
rank Duplicate = 1
rank Sort = 2
rank TwiceInState = 3
rank NoState = 4
rank NoLabel = 5
rank NoRoute = 6
rank BadCount = 7
rank NoEnd = 8
rank Limit = 9

-- limits come before all else
abbrev pub phase : Rule → ℕ
phase Limit = 0
phase _ = 1

-- whether the first list comes before the second, as words do in a dictionary
abbrev pub is_less : List ℕ → List ℕ → Bool
is_less [] [] = false
is_less [] (y ∷ ys) = true
is_less (x ∷ xs) [] = false
is_less (x ∷ xs) (y ∷ ys) = nat_lt x y || (x == y && is_less xs ys)

-- what faults are ordered by
abbrev pub key : Diagnostic → List ℕ
key fault = phase fault.rule ∷ fault.place.line ∷ fault.place.column ∷ rank fault.rule ∷ []

-- whether the first fault is told before the second
abbrev pub precedes : Diagnostic → Diagnostic → Bool
precedes one other = is_less (key one) (key other)

-- of two faults that were noted one after the other, the one that is told
abbrev pub earlier : Option Diagnostic → Diagnostic → Option Diagnostic
earlier None fault = Some fault
earlier (Some old) fault = if precedes fault old then Some fault else Some old

-- the fault that is told once these are noted
abbrev pub least_of : Option Diagnostic → List Diagnostic → Option Diagnostic
least_of old faults = fold earlier old faults

-- these faults were noted, one after the other: of them and of the one that was told before, the first is told
abbrev pub Notes : Option Diagnostic → Option Diagnostic → List Diagnostic → Type 0
Notes old new faults = new ≡ least_of old faults

-- ---- lists of faults

-- a fault at the word where the rule is broken
abbrev pub fault_if : Bool → Rule → Spot → List Diagnostic
fault_if broken rule word = if broken then diagnostic_at rule word ∷ [] else []

-- a Limit at the word that is past it, if there is one
abbrev pub limit_at : Option Spot → List Diagnostic
limit_at None = []
limit_at (Some word) = diagnostic_at Limit word ∷ []

-- a Limit at the word that has so many before it in the list, if there is one
abbrev pub fault_at : ℕ → List Spot → List Diagnostic
fault_at most words = limit_at (slice_get words most)

-- ---- what the code keeps

-- a token's text, and where it stands
abbrev pub token_word : Token → Spot
token_word token = record { text = token.text.now; place = token.place }

abbrev pub diagnostic_of : Fault → Diagnostic
diagnostic_of fault = diagnostic_at fault.rule (token_word fault.token)
