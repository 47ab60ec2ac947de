-- The sorts of parameters at their places.
use Rattle.std.proofs.Common.{◌≡◌, ◌∙◌, ◌+◌, ℕ, zero, suc, List, [], ◌∷◌, Option, add-one, ap, drop, refl, sym}
use Rattle.sdl_system.specs.declared.sort.Sort.{Sort}
use Rattle.build_states.specs.Faulty.{first_sort, other_sorts}
use Rattle.build_states.specs.Places.{sort_at}

pub first_sort-at : (sorts : List (Option Sort)) (place : ℕ) → first_sort (drop place sorts) ≡ sort_at sorts place
first_sort-at [] zero = refl
first_sort-at [] (suc place) = refl
first_sort-at (sort ∷ sorts) zero = refl
first_sort-at (sort ∷ sorts) (suc place) = first_sort-at sorts place

other_sorts-suc : (sorts : List (Option Sort)) (place : ℕ) → other_sorts (drop place sorts) ≡ drop (suc place) sorts
other_sorts-suc [] zero = refl
other_sorts-suc [] (suc place) = refl
other_sorts-suc (sort ∷ sorts) zero = refl
other_sorts-suc (sort ∷ sorts) (suc place) = other_sorts-suc sorts place

pub other_sorts-more : (sorts : List (Option Sort)) (place : ℕ) →
    other_sorts (drop place sorts) ≡ drop (place + 1) sorts
other_sorts-more sorts place = other_sorts-suc sorts place ∙ ap (λ n. drop n sorts) (sym (add-one place))
