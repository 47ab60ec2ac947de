-- Bytes that are changed one after the other.
use Rattle.std.proofs.Common.{◌≡◌, ◌≢◌, ◌<◌, ◌≤◌, ◌+◌, ℕ, List, inl, inr, ◌∙◌, refl, sym, ap, arith, length, get_or, length-set, set, nat_lt, cond, ⊎_elim}
use Rattle.std.proofs.lemmas.Bool.{cases_eq, cases_lt, cond-false, cond-true, le-ltb, lt-ltb}
use Rattle.std.proofs.lemmas.Grind.{get_or-set_at}
use Rattle.std.proofs.lemmas.List.{get_or-set_other}

-- the bytes of a text up to a number are changed, each by its number
pub record IsChanged (change : ℕ → ℕ → ℕ) (end : ℕ) (text rest : List ℕ) : Type 0 where
  pub as_long : length rest ≡ length text
  pub each : (k : ℕ) → k < length text
      → get_or rest k 0 ≡ cond (nat_lt k end) (change k (get_or text k 0)) (get_or text k 0)

pub none : (change : ℕ → ℕ → ℕ) (text : List ℕ) → IsChanged change 0 text text
none change text = record {
  as_long = refl;
  each = λ k less.
      sym (cond-false (nat_lt k 0) (change k (get_or text k 0)) (get_or text k 0) (le-ltb k 0 (omega arith)));
}

-- those from the number on are as they were
pub as_before : (change : ℕ → ℕ → ℕ) (at : ℕ) (text mid : List ℕ) → IsChanged change at text mid → at < length text
    → get_or mid at 0 ≡ get_or text at 0
as_before change at text mid so_far less =
    so_far.each at less
    ∙ cond-false (nat_lt at at) (change at (get_or text at 0)) (get_or text at 0) (le-ltb at at (omega arith))

same_side : (k at : ℕ) → k ≢ at → nat_lt k at ≡ nat_lt k (at + 1)
same_side k at other = ⊎_elim
    (λ (l : k < at). lt-ltb k at l ∙ sym (lt-ltb k (at + 1) (omega (arith, l))))
    (λ (l : at ≤ k). le-ltb k at l ∙ sym (le-ltb k (at + 1) (omega (arith, l, other))))
    (cases_lt k at)

pub one_more : (change : ℕ → ℕ → ℕ) (at byte : ℕ) (text mid : List ℕ) → IsChanged change at text mid
    → at < length text → byte ≡ change at (get_or mid at 0) → IsChanged change (at + 1) text (set mid at byte)
one_more change at byte text mid so_far less is = record {
  as_long = length-set mid at byte ∙ so_far.as_long;
  each = λ k within. ⊎_elim
      (λ (e : k ≡ at).
      get_or-set_at mid at k byte 0 e (let same = so_far.as_long in omega (arith, same, less))
      ∙ is ∙ ap (change at) (as_before change at text mid so_far less)
      ∙ ap (λ n. change n (get_or text n 0)) (sym e)
      ∙ sym (cond-true (nat_lt k (at + 1)) (change k (get_or text k 0)) (get_or text k 0)
      (lt-ltb k (at + 1) (omega (arith, e)))))
      (λ (e : k ≢ at).
      get_or-set_other mid at k byte 0 e ∙ so_far.each k within
      ∙ ap (λ t. cond t (change k (get_or text k 0)) (get_or text k 0)) (same_side k at e))
      (cases_eq k at);
}

pub changed : (change : ℕ → ℕ → ℕ) (at : ℕ) (text rest : List ℕ) → IsChanged change at text rest → length text ≤ at
    → (k : ℕ) → k < length text → get_or rest k 0 ≡ change k (get_or text k 0)
changed change at text rest all end k less =
    all.each k less
    ∙ cond-true (nat_lt k at) (change k (get_or text k 0)) (get_or text k 0) (lt-ltb k at (omega (arith, less, end)))
