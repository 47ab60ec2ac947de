-- What one more element adds.
use Rattle.std.proofs.Common.{◌≡◌, ◌∙◌, ◌+◌, ◌<◌, ◌≤◌, ◌++◌, ◌∷◌, [], ℕ, List, ap, append_assoc, get_or, length, map, sym, take}
use Rattle.std.proofs.lemmas.List.{flat_map_more, map_more, take_all, take_more}
use Rattle.std.specs.List.{flat_map}

pub one_more : (f : ℕ → ℕ) (old before after bytes : List ℕ) (i made : ℕ) → i < length bytes →
    before ≡ old ++ map f (take i bytes) → made ≡ f (get_or bytes i 0) → after ≡ before ++ made ∷ [] →
    after ≡ old ++ map f (take (i + 1) bytes)
one_more f old before after bytes i made below was is here =
    here
    ∙ ap (λ l. l ++ made ∷ []) was
    ∙ append_assoc old (map f (take i bytes)) (made ∷ [])
    ∙ ap (λ l. old ++ l) (ap (λ y. map f (take i bytes) ++ y ∷ []) is ∙ sym (map_more f bytes i 0 below))

pub all_made : (f : ℕ → ℕ) (old before bytes : List ℕ) (i : ℕ) → length bytes ≤ i →
    before ≡ old ++ map f (take i bytes) → before ≡ old ++ map f bytes
all_made f old before bytes i past was = was ∙ ap (λ l. old ++ map f l) (take_all i bytes past)

-- one more piece of a text, of which the rest is still to come
pub moved : (old before after piece rest : List ℕ) → before ++ (piece ++ rest) ≡ old → after ≡ before ++ piece →
    after ++ rest ≡ old
moved old before after piece rest was is = ap (λ l. l ++ rest) is ∙ append_assoc before piece rest ∙ was

-- one more piece, of an element as it is
pub part_more : {A : Type 0} (f : A → List ℕ) (before after : List ℕ) (xs : List A) (i : ℕ) (x d : A) →
    i < length xs → before ≡ flat_map f (take i xs) → x ≡ get_or xs i d → after ≡ before ++ f x →
    after ≡ flat_map f (take (i + 1) xs)
part_more f before after xs i x d below was is here =
    here
    ∙ ap (λ l. l ++ f x) was
    ∙ flat_map_more f [] (take i xs) x
    ∙ ap (flat_map f) (ap (λ y. take i xs ++ y ∷ []) is ∙ sym (take_more xs i d below))
