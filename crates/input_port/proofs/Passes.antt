use Rattle.std.proofs.Common.{◌≡◌, ◌≢◌, ◌⊎◌, ℕ, zero, suc, cond, nat_eq, List, [], ◌∷◌, ◌++◌, length, set, sym, refl, ap, ◌∙◌, subst, inl, inr, ⊎_elim, length-set}
use mathlib.Core.Option.{some, some-injective, some-ne-none}
use lib.ListN.{get_elem?}
use Rattle.crossbeam_queue.proofs.Lists.{at_set}
use Rattle.input_port.specs.QueueWords.{EachView, View}

-- a fact of each view, after one view is changed
pub each_set : (F : ℕ → View → Type 0) (views : List View) (pass : ℕ) (w : View) → F pass w
    → ((j : ℕ) (u : View) → j ≢ pass → get_elem? views j ≡ some u → F j u) → EachView F (set views pass w)
each_set F views pass w mine others j u e =
    ⊎_elim (λ (x : (j ≡ pass) × (w ≡ u)). subst (λ (y : ℕ × View). F y.0 y.1) (λ i. (sym x.0 i, x.1 i)) mine)
    (λ (x : (j ≢ pass) × (get_elem? views j ≡ some u)). others j u x.0 x.1) (at_set views pass j w u e)

at_more : (l : List View) (a b : View) (j : ℕ) → get_elem? (l ++ a ∷ []) j ≡ some b → (get_elem? l j ≡ some b) ⊎ ((j ≡ length l) × (a ≡ b))
at_more [] a b zero e = inr (refl, some-injective a b e)
at_more [] a b (suc j) e = absurd (some-ne-none b (sym e))
at_more (x ∷ xs) a b zero e = inl e
at_more (x ∷ xs) a b (suc j) e = ⊎_elim inl (λ (t : (j ≡ length xs) × (a ≡ b)). inr (ap suc t.0, t.1)) (at_more xs a b j e)

-- and after one view more has come at the end
pub each_split : (F : ℕ → View → Type 0) (views : List View) (pass : ℕ) (left right : View) → F pass left → F (length views) right
    → ((j : ℕ) (u : View) → j ≢ pass → get_elem? views j ≡ some u → F j u) → EachView F (set views pass left ++ right ∷ [])
each_split F views pass left right mine new others j u e =
    ⊎_elim (λ (x : get_elem? (set views pass left) j ≡ some u). each_set F views pass left mine others j u x)
    (λ (x : (j ≡ length (set views pass left)) × (right ≡ u)).
    subst (λ (y : ℕ × View). F y.0 y.1) (λ i. (sym (x.0 ∙ length-set views pass left) i, x.1 i)) new)
    (at_more (set views pass left) right u j e)

-- the seats after one number's pass is changed: `holder` is one more than the pass, and 0 where none has the number
abbrev pub seated : (ℕ → ℕ) → ℕ → ℕ → ℕ → ℕ
seated seat number holder n = cond (nat_eq n number) holder (seat n)
