-- The element of a list that has so many before it, as code reads it.
use Rattle.std.proofs.Common.{◌≡◌, ◌∙◌, ℕ, List, Option, None, Some, map, option_map, slice_get, ap, refl, sym, arith}
use Rattle.std.specs.Borrow.{Bor}
use Rattle.std.specs.Slice.{IsItemAt}
use Rattle.std.proofs.lemmas.Option.{slice_get-get_or, slice_get-map, slice_get_past}
use Rattle.sdl_tree.specs.Words.{Spot}
use Rattle.build_names.specs.Faults.{Diagnostic, limit_at, fault_at, least_of}

item-some : {X : Type 0} (xs : List X) (i : ℕ) (x : Bor X) → IsItemAt xs i (Some x) → slice_get xs i ≡ Some x.now
item-some xs i x h = slice_get-get_or xs i x.now h.3.0 ∙ ap Some (sym (h.4 (omega arith) x.now))

item-none : {X : Type 0} (xs : List X) (i : ℕ) → IsItemAt {X = X} xs i None → slice_get xs i ≡ None
item-none xs i h = slice_get_past xs i h.3

mapped-twice : {X Y Z : Type 0} (f : Y → Z) (g : X → Y) (found : Option X) →
    option_map f (option_map g found) ≡ option_map (λ x. f (g x)) found
mapped-twice f g None = refl
mapped-twice f g (Some x) = refl

limit_at-read : {X Y : Type 0} (word : Y → Spot) (value : X → Y) (xs : List X) (i : ℕ) (got : Option X) →
    slice_get xs i ≡ got → limit_at (option_map (λ x. word (value x)) got) ≡ fault_at i (map word (map value xs))
limit_at-read word value xs i got at =
    let read : slice_get (map word (map value xs)) i ≡ option_map word (option_map value got) =
    slice_get-map word (map value xs) i
    ∙ ap (option_map word) (slice_get-map value xs i ∙ ap (option_map value) at) in
    sym (ap limit_at read ∙ ap limit_at (mapped-twice word value got))

-- a limit at the element that a read gave, and at the one that has so many before it
pub limit_at-got : {X Y : Type 0} (word : Y → Spot) (value : X → Y) (xs : List X) (i : ℕ) (got : Option (Bor X)) →
    IsItemAt xs i got → limit_at (option_map (λ x. word (value x.now)) got) ≡ fault_at i (map word (map value xs))
limit_at-got word value xs i None at = limit_at-read word value xs i None (item-none xs i at)
limit_at-got word value xs i (Some x) at = limit_at-read word value xs i (Some x.now) (item-some xs i x at)

-- the element that a read gave was noted
pub noted-at : {X Y : Type 0} (word : Y → Spot) (value : X → Y) (xs : List X) (i : ℕ) (got : Option (Bor X))
    (old new : Option Diagnostic) → IsItemAt xs i got →
    new ≡ least_of old (limit_at (option_map (λ x. word (value x.now)) got)) →
    new ≡ least_of old (fault_at i (map word (map value xs)))
noted-at word value xs i got old new at noted = noted ∙ ap (least_of old) (limit_at-got word value xs i got at)
