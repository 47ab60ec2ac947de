-- What one more byte adds.
use Rattle.std.proofs.Common.{◌≡◌, ◌∙◌, ◌+◌, ◌<◌, ◌≤◌, ◌++◌, ◌∷◌, [], ℕ, List, ap, append_assoc, get_or, length, map, sym, take}
use Rattle.std.proofs.lemmas.List.{map_more, take_all}

pub one_more : (f : ℕ → ℕ) (old before after bytes : List ℕ) (i made : ℕ) → i < length bytes →
    before ≡ old ++ map f (take i bytes) → made ≡ f (get_or bytes i 0) → after ≡ before ++ made ∷ [] →
    after ≡ old ++ map f (take (i + 1) bytes)
one_more f old before after bytes i made below was is here =
    here
    ∙ ap (λ l. l ++ made ∷ []) was
    ∙ append_assoc old (map f (take i bytes)) (made ∷ [])
    ∙ ap (λ l. old ++ l) (ap (λ y. map f (take i bytes) ++ y ∷ []) is ∙ sym (map_more f bytes i 0 below))

pub all_made : (f : ℕ → ℕ) (old before bytes : List ℕ) (i : ℕ) → length bytes ≤ i →
    before ≡ old ++ map f (take i bytes) → before ≡ old ++ map f bytes
all_made f old before bytes i past was = was ∙ ap (λ l. old ++ map f l) (take_all i bytes past)
