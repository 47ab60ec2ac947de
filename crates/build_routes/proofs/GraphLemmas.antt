-- What a step that is added changes.
use Rattle.std.proofs.Common.{◌≡◌, ℕ, zero, suc, ◌⊎◌, ◌<◌, ◌≤◌, ◌++◌, ◌∙◌, List, [], ◌∷◌, length, set, arith, inl, inr, subst, sym, refl, ap, get_or}
use Rattle.std.proofs.lemmas.Bool.{cases_eq}
use Rattle.std.proofs.lemmas.List.{length-set, length_push}
use Rattle.std.proofs.lemmas.List.Elements.{Contains-append_left, Contains-push, Contains-push_cases}
use Rattle.std.specs.List.{Contains}
use Rattle.build_routes.specs.Graph.{Adds, IsClosed, Leads, row}
use Rattle.build_routes.specs.declared.network.graph.Row.{Row}
use Rattle.build_routes.specs.declared.network.graph.Step.{Step}

-- an empty row behind the others changes no row
pub row-push : (rows : List Row) (fresh : Row) → fresh.steps.items ≡ [] → (n : ℕ) → row (rows ++ fresh ∷ []) n ≡ row rows n
row-push [] fresh empty zero = empty
row-push [] fresh empty (suc n) = refl
row-push (first ∷ rows) fresh empty zero = refl
row-push (first ∷ rows) fresh empty (suc n) = row-push rows fresh empty n

pub row-set_same : (rows : List Row) (n : ℕ) (new : Row) → n < length rows → row (set rows n new) n ≡ new.steps.items
row-set_same [] n new within = absurd (omega arith)
row-set_same (first ∷ rows) zero new within = refl
row-set_same (first ∷ rows) (suc n) new within = row-set_same rows n new (omega arith)

pub row-set_other : (rows : List Row) (n m : ℕ) (new : Row) → (m ≡ n → ⊥) → row (set rows n new) m ≡ row rows m
row-set_other [] n m new differs = refl
row-set_other (first ∷ rows) zero zero new differs = absurd (differs refl)
row-set_other (first ∷ rows) zero (suc m) new differs = refl
row-set_other (first ∷ rows) (suc n) zero new differs = refl
row-set_other (first ∷ rows) (suc n) (suc m) new differs = row-set_other rows n m new (λ e. differs (ap suc e))

pub row-at : (rows : List Row) (n : ℕ) (d : Row) → n < length rows → row rows n ≡ (get_or rows n d).steps.items
row-at [] n d within = absurd (omega arith)
row-at (first ∷ rows) zero d within = refl
row-at (first ∷ rows) (suc n) d within = row-at rows n d (omega arith)

pub row-past : (rows : List Row) (n : ℕ) → length rows ≤ n → row rows n ≡ []
row-past [] n past = refl
row-past (first ∷ rows) zero past = absurd (omega arith)
row-past (first ∷ rows) (suc n) past = row-past rows n (omega arith)

-- a row more, if there was memory for it
pub covers_one : (old new : List Row) (fresh : Row) → fresh.steps.items ≡ [] → (new ≡ old ++ fresh ∷ []) ⊎ (new ≡ old)
    → ((n : ℕ) → row new n ≡ row old n) × (length old ≤ length new)
covers_one old new fresh empty pushed = elim pushed [
  | inl more ↦ (λ n. ap (λ rows. row rows n) more ∙ row-push old fresh empty n, omega (arith, ap length more, length_push old fresh))
  | inr same ↦ (λ n. ap (λ rows. row rows n) same, omega (arith, ap length same))
]

pub stays_closed : (old new : List Row) → IsClosed old → ((n : ℕ) → row new n ≡ row old n) → length old ≤ length new → IsClosed new
stays_closed old new closed same longer n step leads =
    let within : step.to < length old = closed n step (subst (λ steps. Contains steps step) (same n) leads) in
    omega arith

-- a step more at a node, if there was memory for it
pub closed_with : (rows : List Row) (from : ℕ) (step : Step) (new : Row) → IsClosed rows → from < length rows → step.to < length rows
    → (new.steps.items ≡ row rows from ++ step ∷ []) ⊎ (new.steps.items ≡ row rows from) → IsClosed (set rows from new)
closed_with rows from step new closed within to pushed n other leads =
    let size : length (set rows from new) ≡ length rows = length-set rows from new in
    let inside : other.to < length rows = elim (cases_eq n from) [
      | inl same ↦
          let here : Contains new.steps.items other = subst (λ steps. Contains steps other) (row-set_same rows from new within) (subst (λ x. Leads (set rows from new) x other) same leads) in
          elim pushed [
            | inl more ↦ elim (Contains-push_cases (row rows from) step other (subst (λ steps. Contains steps other) more here)) [
              | inl before ↦ closed from other before
              | inr is ↦ subst (λ x. x.to < length rows) is to
            ]
            | inr unchanged ↦ closed from other (subst (λ steps. Contains steps other) unchanged here)
          ]
      | inr differs ↦ closed n other (subst (λ steps. Contains steps other) (row-set_other rows from n new differs) leads)
    ] in
    omega arith

pub adds_one : (old rows : List Row) (from : ℕ) (step : Step) (new : Row) → ((n : ℕ) → row rows n ≡ row old n) → from < length rows
    → new.steps.items ≡ row rows from ++ step ∷ [] → Adds (λ n s. (n ≡ from) × (s ≡ step)) old (set rows from new)
adds_one old rows from step new same within pushed =
    let at : row (set rows from new) from ≡ row old from ++ step ∷ [] =
    row-set_same rows from new within ∙ pushed ∙ ap (λ steps. steps ++ step ∷ []) (same from) in
    record {
      kept = λ n s leads. elim (cases_eq n from) [
        | inl is ↦ subst (λ x. Leads (set rows from new) x s) (sym is) (subst (λ steps. Contains steps s) (sym at)
            (Contains-append_left (row old from) (step ∷ []) s (subst (λ x. Leads old x s) is leads)))
        | inr differs ↦ subst (λ steps. Contains steps s) (sym (row-set_other rows from n new differs ∙ same n)) leads
      ];
      made = λ n s is. subst (λ x. Leads (set rows from new) x s) (sym is.0) (subst (λ x. Leads (set rows from new) from x) (sym is.1)
          (subst (λ steps. Contains steps step) (sym at) (Contains-push (row old from) step)));
      just = λ n s leads. elim (cases_eq n from) [
        | inl is ↦ elim (Contains-push_cases (row old from) step s (subst (λ steps. Contains steps s) at (subst (λ x. Leads (set rows from new) x s) is leads))) [
          | inl before ↦ inl (subst (λ x. Leads old x s) (sym is) before)
          | inr equal ↦ inr (is, sym equal)
        ]
        | inr differs ↦ inl (subst (λ steps. Contains steps s) (row-set_other rows from n new differs ∙ same n) leads)
      ];
    }

pub row-read : (rows : List Row) (n : ℕ) (read : Row) → n < length rows → read ≡ get_or rows n read → read.steps.items ≡ row rows n
row-read rows n read within is = ap (λ x. x.steps.items) is ∙ sym (row-at rows n read within)
