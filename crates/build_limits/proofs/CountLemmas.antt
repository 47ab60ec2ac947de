-- Words that are counted.
use Rattle.std.proofs.Common.{◌≡◌, ◌∙◌, ℕ, zero, suc, List, [], ◌∷◌, ◌++◌, slice_get, refl, ap, sym}
use Rattle.std.proofs.lemmas.List.Sums.{fold-append}
use Rattle.sdl_tree.specs.Words.{Spot}
use Rattle.build_limits.specs.Counted.{Counted, Left, Past, count_one, counted, past_limit}

counted-past : (first : Spot) (words : List Spot) → counted (Past first) words ≡ Past first
counted-past first [] = refl
counted-past first (word ∷ words) = counted-past first words

-- the first word past a limit is the one that has so many before it
pub past_limit-counted : (most : ℕ) (words : List Spot) →
    past_limit (counted (Left most) words) ≡ slice_get words most
past_limit-counted most [] = refl
past_limit-counted zero (word ∷ words) = ap past_limit (counted-past word words)
past_limit-counted (suc most) (word ∷ words) = past_limit-counted most words

-- some words, and then others
pub counted-then : (before between after : Counted) (xs ys : List Spot) → between ≡ counted before xs →
    after ≡ counted between ys → after ≡ counted before (xs ++ ys)
counted-then before between after xs ys first second =
    second ∙ ap (λ n. counted n ys) first ∙ sym (fold-append count_one before xs ys)
