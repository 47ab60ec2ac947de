-- Lists that are kept once.
use Rattle.std.proofs.Common.{◌≡◌, ◌++◌, ◌∷◌, [], ℕ, zero, suc, Bool, true, false, if◌then◌else◌, List, Some, ap, map, option_map, refl, slice_get, subst, sym, ◌∙◌}
use lib.Pointwise.{pointwise}
use Rattle.std.proofs.lemmas.Bool.{and_from, and_parts, false≢true}
use Rattle.std.proofs.lemmas.List.{map-append}
use Rattle.std.proofs.lemmas.Option.{none-some, same_Some, slice_get-map}
use Rattle.sdl_system.specs.declared.id.ProcessId.{ProcessId}
use Rattle.std.specs.List.{AllByRecursion, IsDistinct}
use Rattle.build_routes.specs.Entries.{Keeps}
use Rattle.build_routes.specs.Table.{AreDistinct}
use Rattle.build_routes.proofs.TableLemmas.{get_kept, keeps_same}

-- one more list, if it is new
pub keeps_all : {V : Type 0} (is_known : Bool) (keys : List V) (new : V) (f : V → List ProcessId)
    → Keeps (map f keys) (map f (if is_known then keys else keys ++ new ∷ []))
keeps_all true keys new f = keeps_same (map f keys)
keeps_all false keys new f = λ n list is.
    subst (λ x. slice_get x n ≡ Some list) (sym (map-append f keys (new ∷ []))) (get_kept (map f keys) (f new) n list is)

pub stands_at : {V : Type 0} (keys : List V) (n : ℕ) (key : V) (f : V → List ProcessId) (list : List ProcessId) → slice_get keys n ≡ Some key → list ≡ f key
    → slice_get (map f keys) n ≡ Some list
stands_at keys n key f list at same = slice_get-map f keys n ∙ ap (option_map f) at ∙ ap (λ x. Some x) (sym same)

-- lists that are equal element by element
pub pointwise_same : {X : Type 0} (E : X → X → Bool) → ((x y : X) → E x y ≡ true → x ≡ y) → (xs ys : List X) → pointwise E xs ys ≡ true → xs ≡ ys
pointwise_same E same [] [] is = refl
pointwise_same E same [] (y ∷ ys) is = absurd (false≢true is)
pointwise_same E same (x ∷ xs) [] is = absurd (false≢true is)
pointwise_same E same (x ∷ xs) (y ∷ ys) is =
    let both = and_parts (E x y) (pointwise E xs ys) is in
    let first : x ≡ y = same x y both.0 in
    let rest : xs ≡ ys = pointwise_same E same xs ys both.1 in cc

pub pointwise_own : {X : Type 0} (E : X → X → Bool) → ((x : X) → E x x ≡ true) → (xs : List X) → pointwise E xs xs ≡ true
pointwise_own E own [] = refl
pointwise_own E own (x ∷ xs) = and_from (E x x) (pointwise E xs xs) (own x) (pointwise_own E own xs)

-- no list stands twice
not_later : {V : Type 0} (E : V → V → Bool) (f : V → List ProcessId) → ((x y : V) → f x ≡ f y → E x y ≡ true) → (key : V) (keys : List V)
    → AllByRecursion (λ y. E key y ≡ false) keys → (j : ℕ) → slice_get (map f keys) j ≡ Some (f key) → ⊥
not_later E f same key [] all j at = none-some (f key) at
not_later E f same key (y ∷ ys) all zero at = false≢true (sym all.0 ∙ same key y (sym (same_Some (f y) (f key) at)))
not_later E f same key (y ∷ ys) all (suc j) at = not_later E f same key ys all.1 j at

pub distinct_by : {V : Type 0} (E : V → V → Bool) (f : V → List ProcessId) → ((x y : V) → f x ≡ f y → E x y ≡ true) → (keys : List V)
    → IsDistinct E keys → AreDistinct (map f keys)
unfolding IsDistinct
distinct_by E f same [] distinct i j list here there = absurd (none-some list here)
distinct_by E f same (key ∷ keys) distinct zero zero list here there = refl
distinct_by E f same (key ∷ keys) distinct zero (suc j) list here there =
    absurd (not_later E f same key keys distinct.0 j (there ∙ sym here))
distinct_by E f same (key ∷ keys) distinct (suc i) zero list here there =
    absurd (not_later E f same key keys distinct.0 i (here ∙ sym there))
distinct_by E f same (key ∷ keys) distinct (suc i) (suc j) list here there = ap suc (distinct_by E f same keys distinct.1 i j list here there)
