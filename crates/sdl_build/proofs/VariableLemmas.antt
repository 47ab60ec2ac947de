-- Variables that are made row by row.
use Rattle.std.proofs.Common.{◌≡◌, ◌∙◌, ◌++◌, ◌⊎◌, inl, inr, List, [], ◌∷◌, Option, ap, map, refl, sym}
use Rattle.build_states.proofs.AnswerLemmas.{append-nil}
use Rattle.build_definitions.specs.Rows.{ValueRow}
use Rattle.build_definitions.specs.Seen.{value_seen}
use Rattle.build_definitions.specs.declared.entries.ValueName.{ValueName}
use Rattle.build_expressions.specs.declared.scope.Constant.{Constant}
use Rattle.sdl_build.specs.Headings.{variables_in}
use Rattle.sdl_system.specs.Behaviour.{VariableMeaning}
use Rattle.sdl_system.specs.declared.id.ProcessId.{ProcessId}

no-initials : (process : ProcessId) (rows : List ValueRow) → variables_in process rows [] ≡ []
no-initials process [] = refl
no-initials process (row ∷ rows) = refl

-- no row or no initial value is left
pub variables-done : (process : ProcessId) (values : List ValueName) (initials : List (Option Constant))
    (whole made : List VariableMeaning) → (values ≡ []) ⊎ (initials ≡ []) →
    whole ≡ made ++ variables_in process (map value_seen values) initials → made ≡ whole
variables-done process values initials whole made (inl none) is =
    sym (is ∙ ap (λ list. made ++ variables_in process (map value_seen list) initials) none ∙ append-nil made)
variables-done process values initials whole made (inr none) is =
    sym (is ∙ ap (λ list. made ++ variables_in process (map value_seen values) list) none
    ∙ ap (λ list. made ++ list) (no-initials process (map value_seen values)) ∙ append-nil made)
