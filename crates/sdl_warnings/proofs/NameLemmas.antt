-- A name more in a set.
use Rattle.std.proofs.Common.{◌≡◌, ◌||◌, ◌++◌, ◌∷◌, [], ℕ, List, Bool, true, false, cond, ap, ◌∙◌, refl}
use Rattle.std.proofs.Math.Bool.{or-false, or-true}
use Rattle.std.proofs.lemmas.List.Folds.{list_any-append}
use Rattle.std.proofs.lemmas.Slice.Eq.{bytes_eq-Decides}
use Rattle.std.specs.Borrow.{Bor}
use Rattle.std.specs.List.{list_any}
use Rattle.std.specs.Str.{bytes_eq}

abbrev pub same : List ℕ → Bor (List ℕ) → Bool
same text name = bytes_eq text name.now

abbrev grown : Bool → List (Bor (List ℕ)) → Bor (List ℕ) → List (Bor (List ℕ))
grown known names name = cond known names (names ++ name ∷ [])

grown_any : (names : List (Bor (List ℕ))) (name : Bor (List ℕ)) (text : List ℕ) (known own : Bool)
    → list_any (same name.now) names ≡ known → bytes_eq text name.now ≡ own → (own ≡ true → text ≡ name.now)
    → list_any (same text) (grown known names name) ≡ (own || list_any (same text) names)
grown_any names name text true true is eq equal = ap (λ t. list_any (same t) names) (equal refl) ∙ is
grown_any names name text true false is eq equal = refl
grown_any names name text false true is eq equal =
    list_any-append (same text) names (name ∷ [])
    ∙ ap (λ b. list_any (same text) names || (b || false)) eq
    ∙ or-true (list_any (same text) names)
grown_any names name text false false is eq equal =
    list_any-append (same text) names (name ∷ [])
    ∙ ap (λ b. list_any (same text) names || (b || false)) eq
    ∙ or-false (list_any (same text) names)

pub added_any : (names : List (Bor (List ℕ))) (name : Bor (List ℕ)) (text : List ℕ)
    → list_any (same text) (grown (list_any (same name.now) names) names name)
    ≡ (bytes_eq text name.now || list_any (same text) names)
added_any names name text =
    grown_any names name text (list_any (same name.now) names) (bytes_eq text name.now) refl refl
    (bytes_eq-Decides text name.now).0
