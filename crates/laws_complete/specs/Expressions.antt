-- Expressions, answers and conditions that break no rule have a meaning (Z.104: expressions; Z.102: decision,
-- continuous signal, enabling condition).
use Rattle.std.specs.Prelude.{◌≡◌, false, Contains, List, [], Option, None, Some, map}
use Rattle.laws_complete.specs.Complete.{HasValue, IsComplete, IsThere}
use Rattle.build_expressions.specs.Answers.{answer_faults, answer_in}
use Rattle.build_expressions.specs.Constants.{constant_faults, constant_in}
use Rattle.build_expressions.specs.Misused.{expression_faults, list_faults, place_faults}
use Rattle.build_expressions.specs.Scope.{Scope}
use Rattle.build_expressions.specs.Typing.{Typed, argument_in, taken_term, taken_terms, typed_in}
use Rattle.build_expressions.specs.declared.context.Context as contexts
use Rattle.build_expressions.specs.declared.operand_sort.OperandSort.{OperandSort}
use Rattle.build_states.specs.Context.{Context}
use Rattle.build_states.specs.Reading.{body_faults, body_read}
use Rattle.sdl_system.specs.declared.sort.Sort.{Sort}
use Rattle.sdl_tree.specs.Tree.{Answer, BodyPart, Expr}
use Rattle.sdl_tree.specs.Words.{Spot}

-- there is a kind and a term, and no synonym inside is refused
abbrev pub HasTerm : Option Typed → Type 0
HasTerm None = ⊥
HasTerm (Some typed) = IsThere typed.term × (typed.is_refused ≡ false)

-- An expression in which no rule is broken has a term, wherever it stands.
abbrev pub TermsGiven : Type 0
TermsGiven = (context : contexts.Context) (scope : Scope) (expression : Expr) → IsComplete scope →
    expression_faults context scope expression ≡ [] → HasTerm (typed_in context scope expression)

-- At a place of a sort it fits the place; where the sort is unknown, each does.
abbrev pub PlacedGiven : Type 0
PlacedGiven = (context : contexts.Context) (scope : Scope) (place : Option Sort) (expression : Expr) →
    IsComplete scope → place_faults context scope place expression ≡ [] →
    IsThere (taken_term place (typed_in context scope expression))

-- Values behind a name fit their places, each with its term.
abbrev pub ListsGiven : Type 0
ListsGiven = (context : contexts.Context) (scope : Scope) (name : Spot) (places : List (Option Sort))
    (values : List Expr) → IsComplete scope → list_faults context scope name places values ≡ [] →
    IsThere (taken_terms places (map (argument_in context scope) values))

-- An answer of a decision has its values, and can be compared so with the question's.
abbrev pub AnswersGiven : Type 0
AnswersGiven = (scope : Scope) (question : Option OperandSort) (answer : Answer) → IsComplete scope →
    answer_faults scope question answer ≡ [] → IsThere (answer_in scope question answer)

-- A constant expression has a value.
abbrev pub ConstantsGiven : Type 0
ConstantsGiven = (scope : Scope) (place : Option Sort) (expression : Expr) → IsComplete scope →
    constant_faults scope place expression ≡ [] → HasValue (constant_in scope place expression)

-- Each condition that the stimuli of a process ask has a term.
abbrev pub ConditionsGiven : Type 0
ConditionsGiven = (context : Context) (body : List BodyPart) → IsComplete context.scope →
    body_faults context body ≡ [] → Contains (body_read context body).numbering.conditions None → ⊥
