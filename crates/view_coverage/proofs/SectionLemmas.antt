-- Sections, one after the other.
use Rattle.std.proofs.Common.{◌≡◌, ◌∙◌, ℕ, ◌+◌, ◌<◌, ◌++◌, List, [], ◌∷◌, ap, get_or, length, subst, sym, take}
use Rattle.std.specs.List.{AllZip}
use Rattle.std.specs.List.Sorted.{IsPermutation}
use Rattle.std.proofs.lemmas.List.{take_more}
use Rattle.std.proofs.lemmas.List.Sorted.{IsPermutation-map}
use Rattle.view_coverage.specs.declared.sections.item.Item.{Item}
use Rattle.view_coverage.specs.Sections.{Row, row_of, rows_listed}

zip-push : {A B : Type 0} (R : A → B → Type 0) (xs : List A) (ys : List B) (x : A) (y : B) → AllZip R xs ys → R x y
    → AllZip R (xs ++ x ∷ []) (ys ++ y ∷ [])
zip-push R [] [] x y all last = (last, tt)
zip-push R [] (other ∷ ys) x y all last = absurd all
zip-push R (first ∷ xs) [] x y all last = absurd all
zip-push R (first ∷ xs) (other ∷ ys) x y all last = (all.0, zip-push R xs ys x y all.1 last)

-- one more of each
pub zip-more : {A B : Type 0} (R : A → B → Type 0) (xs : List A) (i : ℕ) (x : A) (ys : List B) (y : B) → i < length xs
    → x ≡ get_or xs i x → AllZip R (take i xs) ys → R x y → AllZip R (take (i + 1) xs) (ys ++ y ∷ [])
zip-more R xs i x ys y below is all last =
    subst (λ l. AllZip R l (ys ++ y ∷ [])) (sym (take_more xs i x below ∙ ap (λ one. take i xs ++ one ∷ []) (sym is)))
    (zip-push R (take i xs) ys x y all last)

-- the rows of a process, in whatever order
pub section-rows : (states stimuli answers : List Row) (none first second third after : List Item) → none ≡ []
    → rows_listed first ≡ rows_listed none ++ states → rows_listed second ≡ rows_listed first ++ stimuli
    → rows_listed third ≡ rows_listed second ++ answers → IsPermutation third after
    → IsPermutation (states ++ stimuli ++ answers) (rows_listed after)
section-rows states stimuli answers none first second third after empty of_states of_stimuli of_answers moved =
    subst (λ rows. IsPermutation rows (rows_listed after))
    (of_answers
    ∙ ap (λ rows. rows ++ answers)
    (of_stimuli ∙ ap (λ rows. rows ++ stimuli) (of_states ∙ ap (λ items. rows_listed items ++ states) empty)))
    (IsPermutation-map row_of third after moved)
