-- Words in the reverse of their order.
use Rattle.std.proofs.Common.{◌≡◌, ◌<◌, ◌≤◌, ◌+◌, ℕ, List, [], ◌∷◌, ◌++◌, ◌∙◌, ap, arith, get_or, length, reverse, take}
use Rattle.std.proofs.lemmas.List.{length-reverse, length-take-le, reverse-append, take_more}

-- the last of so many comes first
pub one_back : {X : Type 0} → (words : List X) (n : ℕ) (d : X) → n < length words
    → reverse (take (n + 1) words) ≡ get_or words n d ∷ reverse (take n words)
one_back words n d less =
    ap reverse (take_more words n d less) ∙ reverse-append (take n words) (get_or words n d ∷ [])

pub so_many : {X : Type 0} → (words : List X) (n : ℕ) → n ≤ length words → length (reverse (take n words)) ≡ n
so_many words n few = length-reverse (take n words) ∙ length-take-le n words few
