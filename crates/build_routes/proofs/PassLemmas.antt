-- What one step, and one step after another, pass on.
use Rattle.std.proofs.Common.{◌≡◌, ◌≢◌, ℕ, ◌⊎◌, ◌+◌, ◌-◌, ◌^◌, ◌<◌, ◌≤◌, ◌++◌, List, [], ◌∷◌, length, set, get_or, arith, inl, inr, subst, sym, refl, ap, ◌∙◌}
use Rattle.std.specs.Prelude.{bit_or}
use Rattle.std.specs.List.{Contains}
use Rattle.std.proofs.lemmas.Bool.{cases_eq, cases_lt}
use Rattle.std.proofs.lemmas.List.{get_or_default, get_or_past, get_or-set_other, get_or-set_same, length-set, length_push}
use Rattle.std.proofs.lemmas.List.Elements.{Contains-append_left, Contains-push}
use Rattle.std.proofs.lemmas.Nat.{le_or_l}
use Rattle.std.proofs.lemmas.List.Sums.{sum_by-set}
use Rattle.build_routes.specs.Mask.{Bit, Has}
use Rattle.build_routes.specs.Passing.{AmongFirst, Passes, missing}
use Rattle.build_routes.proofs.Bits.{no_bit, or_cases, or_left, or_right}

pub put_bit : (old : List ℕ) (t m k : ℕ) → t < length old → Bit m k → Has (set old t m) t k
put_bit old t m k within has = subst (λ x. Bit x k) (sym (get_or-set_same old t m 0 within)) has

pub got_bit : (old : List ℕ) (t m k : ℕ) → t < length old → Has (set old t m) t k → Bit m k
got_bit old t m k within has = subst (λ x. Bit x k) (get_or-set_same old t m 0 within) has

pub keep_bit : (old : List ℕ) (t m n k : ℕ) → n ≢ t → Has old n k → Has (set old t m) n k
keep_bit old t m n k differs has = subst (λ x. Bit x k) (sym (get_or-set_other old t n m 0 differs)) has

pub kept_bit : (old : List ℕ) (t m n k : ℕ) → n ≢ t → Has (set old t m) n k → Has old n k
kept_bit old t m n k differs has = subst (λ x. Bit x k) (get_or-set_other old t n m 0 differs) has

-- a signal stands only in a mask that is there
pub has_within : (masks : List ℕ) (n k : ℕ) → Has masks n k → n < length masks
has_within masks n k has = elim (cases_lt n (length masks)) [
  | inl within ↦ within
  | inr past ↦ absurd (no_bit k (subst (λ x. Bit x k) (get_or_past masks n 0 past) has))
]

less_missing : (old : List ℕ) (t m : ℕ) → t < length old → get_or old t 0 < m → m < 2 ^ 64 → missing (set old t m) + 1 ≤ missing old
less_missing old t m within more fits = omega (arith, sum_by-set (λ mask. 2 ^ 64 - mask) old t m 0 within)

grows : (a b m : ℕ) → m ≡ bit_or a b → m ≢ a → a < m
grows a b m is differs = omega (arith, le_or_l a b)

waits_more : (old was waits : List ℕ) (t m : ℕ) → t < length old → get_or old t 0 < m → m < 2 ^ 64 → waits ≡ was ++ t ∷ []
    → missing (set old t m) + length waits ≤ missing old + length was
waits_more old was waits t m within more fits pushed =
    let less = less_missing old t m within more fits in
    let longer : length waits ≡ length was + 1 = ap length pushed ∙ length_push was t in
    omega arith

-- what comes to a node and is new there
pub raises : (old was waits : List ℕ) (t through m : ℕ) (P : ℕ → ℕ → Type 0) → t < length old
    → ((n k : ℕ) → P n k → (n ≡ t) × Bit through k) → ((k : ℕ) → Bit through k → P t k)
    → m ≡ bit_or (get_or old t 0) through → m ≢ get_or old t 0 → m < 2 ^ 64 → waits ≡ was ++ t ∷ []
    → Passes P old (set old t m) was waits
raises old was waits t through m P within says gives is differs fits pushed = record {
  size = length-set old t m;
  kept = λ n k has. elim (cases_eq n t) [
    | inl same ↦ subst (λ x. Has (set old t m) x k) (sym same) (put_bit old t m k within (subst (λ x. Bit x k) (sym is) (or_left (get_or old t 0) through k (subst (λ x. Has old x k) same has))))
    | inr other ↦ keep_bit old t m n k other has
  ];
  made = λ n k comes. subst (λ x. Has (set old t m) x k) (sym (says n k comes).0) (put_bit old t m k within (subst (λ x. Bit x k) (sym is) (or_right (get_or old t 0) through k (says n k comes).1)));
  just = λ n k has. elim (cases_eq n t) [
    | inl same ↦ elim (or_cases (get_or old t 0) through k (subst (λ x. Bit x k) is (got_bit old t m k within (subst (λ x. Has (set old t m) x k) same has)))) [
      | inl before ↦ inl (subst (λ x. Has old x k) (sym same) before)
      | inr came ↦ inr (subst (λ x. P x k) (sym same) (gives k came))
    ]
    | inr other ↦ inl (kept_bit old t m n k other has)
  ];
  noted = λ n k has. elim (cases_eq n t) [
    | inl same ↦ inr (subst (λ x. Contains x n) (sym pushed) (subst (λ x. Contains (was ++ t ∷ []) x) (sym same) (Contains-push was t)))
    | inr other ↦ inl (kept_bit old t m n k other has)
  ];
  still = λ n waited. subst (λ x. Contains x n) (sym pushed) (Contains-append_left was (t ∷ []) n waited);
  less = waits_more old was waits t m within (grows (get_or old t 0) through m is differs) fits pushed;
}

-- what comes to a node and is there already
pub stays : (old was : List ℕ) (t through : ℕ) (P : ℕ → ℕ → Type 0)
    → ((n k : ℕ) → P n k → (n ≡ t) × Bit through k) → (m : ℕ) → m ≡ bit_or (get_or old t 0) through → m ≡ get_or old t 0
    → Passes P old old was was
stays old was t through P says m is same = record {
  size = refl;
  kept = λ n k has. has;
  made = λ n k comes. subst (λ x. Has old x k) (sym (says n k comes).0) (subst (λ x. Bit x k) (sym is ∙ same) (or_right (get_or old t 0) through k (says n k comes).1));
  just = λ n k has. inl has;
  noted = λ n k has. inl has;
  still = λ n waited. waited;
  less = omega arith;
}

pub passes_nothing : (old was : List ℕ) (P : ℕ → ℕ → Type 0) → ((n k : ℕ) → P n k → ⊥) → Passes P old old was was
passes_nothing old was P none = record {
  size = refl;
  kept = λ n k has. has;
  made = λ n k comes. absurd (none n k comes);
  just = λ n k has. inl has;
  noted = λ n k has. inl has;
  still = λ n waited. waited;
  less = omega arith;
}

pub passes_more : (P Q R : ℕ → ℕ → Type 0) (a b c u v w : List ℕ) → Passes P a b u v → Passes Q b c v w
    → ((n k : ℕ) → R n k → P n k ⊎ Q n k) → ((n k : ℕ) → P n k → R n k) → ((n k : ℕ) → Q n k → R n k)
    → Passes R a c u w
passes_more P Q R a b c u v w p q parts left right = record {
  size = q.size ∙ p.size;
  kept = λ n k has. q.kept n k (p.kept n k has);
  made = λ n k comes. elim (parts n k comes) [ inl first ↦ q.kept n k (p.made n k first) | inr then ↦ q.made n k then ];
  just = λ n k has. elim (q.just n k has) [
    | inl before ↦ elim (p.just n k before) [ inl old ↦ inl old | inr first ↦ inr (left n k first) ]
    | inr then ↦ inr (right n k then)
  ];
  noted = λ n k has. elim (q.noted n k has) [
    | inl before ↦ elim (p.noted n k before) [ inl old ↦ inl old | inr waits ↦ inr (q.still n waits) ]
    | inr waits ↦ inr waits
  ];
  still = λ n waited. q.still n (p.still n waited);
  less = let first = p.less in let then = q.less in omega arith;
}

-- among the first elements of a list, and one more
pub among_none : {X : Type 0} (xs : List X) (x : X) → AmongFirst xs 0 x → ⊥
among_none xs x among = omega (arith, among.1)

pub among_more : {X : Type 0} (xs : List X) (i : ℕ) (x : X) → AmongFirst xs i x → AmongFirst xs (i + 1) x
among_more xs i x among = (among.0, omega (arith, among.1), among.2)

pub among_last : {X : Type 0} (xs : List X) (i : ℕ) (x : X) → x ≡ get_or xs i x → AmongFirst xs (i + 1) x
among_last xs i x is = (i, omega arith, sym is)

pub among_cases : {X : Type 0} (xs : List X) (i : ℕ) (x y : X) → i < length xs → y ≡ get_or xs i y → AmongFirst xs (i + 1) x → AmongFirst xs i x ⊎ (x ≡ y)
among_cases xs i x y within is among = elim (cases_eq among.0 i) [
  | inl same ↦ inr (sym among.2 ∙ ap (λ j. get_or xs j x) same ∙ get_or_default xs i x y within ∙ sym is)
  | inr other ↦ inl (among.0, omega (arith, among.1), among.2)
]
