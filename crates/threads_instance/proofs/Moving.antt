-- Numbers that are moved from the front of one queue to the end of another, and what turning that queue does.
use Rattle.std.proofs.Common.{◌≡◌, ◌++◌, ◌+◌, ◌-◌, ◌∙◌, ℕ, List, ap, arith, drop, length, refl, sym, take}
use Rattle.std.proofs.Math.Seq.{drop-append-add, take-append-add}
use Rattle.std.proofs.lemmas.List.{drop_at, take_at}

-- what came after so many were moved
pub sent : (to to0 from from0 : List ℕ) (count : ℕ) → to ++ from ≡ to0 ++ from0 → length to ≡ length to0 + count →
    to ≡ to0 ++ take count from0
sent to to0 from from0 count same is =
    sym (take_at to from (length to) refl) ∙ ap (λ list. take (length to) list) same
    ∙ ap (λ n. take n (to0 ++ from0)) is ∙ take-append-add to0 from0 count

-- what is left then
pub left : (to to0 from from0 : List ℕ) (count : ℕ) → to ++ from ≡ to0 ++ from0 → length to ≡ length to0 + count →
    from ≡ drop count from0
left to to0 from from0 count same is =
    sym (drop_at to from (length to) refl) ∙ ap (λ list. drop (length to) list) same
    ∙ ap (λ n. drop n (to0 ++ from0)) is ∙ drop-append-add to0 from0 count

-- what came last is first after the turn
pub turned : (own more : List ℕ) (whole count : ℕ) → whole ≡ length own + count →
    drop (whole - count) (own ++ more) ++ take (whole - count) (own ++ more) ≡ more ++ own
turned own more whole count is =
    let at : length own ≡ whole - count = omega (arith, is) in
    ap (λ list. list ++ take (whole - count) (own ++ more)) (drop_at own more (whole - count) at)
    ∙ ap (λ list. more ++ list) (take_at own more (whole - count) at)
