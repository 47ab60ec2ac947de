-- States, one after another.
use Rattle.std.proofs.Common.{◌≡◌, ◌∙◌, ◌++◌, ◌⊎◌, inl, inr, List, [], ◌∷◌, ap, refl, sym}
use Rattle.std.specs.Borrow.{Bor}
use Rattle.build_states.proofs.AnswerLemmas.{append-nil}
use Rattle.build_states.specs.Tabled.{names_listed}
use Rattle.sdl_system.specs.declared.id.TableId.{TableId}
use Rattle.sdl_tree.specs.Words.{Spot}
use Rattle.sdl_tree.specs.declared.name.Name.{Name}
use Rattle.build_tables.specs.Stated.{Stated, states_listed}

no-tables : (names : List Spot) → states_listed names [] ≡ []
no-tables [] = refl
no-tables (name ∷ names) = refl

-- no name or no table is left
pub states-done : (names : List (Bor Name)) (tables : List TableId) (whole made : List Stated) →
    (names ≡ []) ⊎ (tables ≡ []) → whole ≡ made ++ states_listed (names_listed names) tables → made ≡ whole
states-done names tables whole made (inl none) is =
    sym (is ∙ ap (λ list. made ++ states_listed (names_listed list) tables) none ∙ append-nil made)
states-done names tables whole made (inr none) is =
    sym (is ∙ ap (λ list. made ++ states_listed (names_listed names) list) none
    ∙ ap (λ list. made ++ list) (no-tables (names_listed names)) ∙ append-nil made)
