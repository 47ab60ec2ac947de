-- How loops of the code go on as those of the reading do.
use Rattle.std.proofs.Common.{List, Ok, ap, arith, map, refl, suc, ℕ, [], ◌++◌, ◌+◌, ◌-◌, ◌<◌, ◌∷◌, ◌≡◌, ◌≤◌, Option}
use Rattle.std.proofs.lemmas.Grind.{common_steps}
use Rattle.parse_expressions.specs.Reading.{Parser, repeated_from}
use Rattle.sdl_tree.specs.Words.{Words}

pub map_push : {A B : Type 0} (f : A → B) (xs : List A) (x : A) → map f (xs ++ x ∷ []) ≡ map f xs ++ f x ∷ []
map_push f [] x = refl
map_push f (y ∷ ys) x = ap (λ zs. f y ∷ zs) (map_push f ys x)

pub repeated_on : {A : Type 0} (p : Parser (Option A)) (found : List A) (i : Words) (n at : ℕ) → at < n → repeated_from p (n - at) found i ≡ repeated_from p (suc (n - (at + 1))) found i
repeated_on p found i n at below = let turn : n - at ≡ suc (n - (at + 1)) = omega arith in ap (λ k. repeated_from p k found i) turn

pub repeated_off : {A : Type 0} (p : Parser (Option A)) (found : List A) (i : Words) (n at : ℕ) → n ≤ at → repeated_from p (n - at) found i ≡ Ok (found, i)
unfolding repeated_from
repeated_off p found i n at done = let none : n - at ≡ 0 = omega arith in ap (λ k. repeated_from p k found i) none

pub ruleset turning = (common_steps, repeated_on, repeated_off, map_push)
