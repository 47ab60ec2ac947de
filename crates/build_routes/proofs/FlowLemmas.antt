-- A flow as it goes on, and when it has come to its end.
use Rattle.std.proofs.Common.{◌≡◌, ℕ, zero, suc, ◌≤◌, ◌++◌, ◌↔◌, drop, take, List, [], ◌∷◌, length, get_or, arith, inl, inr, subst, sym, refl}
use Rattle.std.specs.List.{Contains}
use Rattle.std.proofs.lemmas.Grind.{common_steps}
use Rattle.std.proofs.lemmas.List.Elements.{Contains-push_cases}
use Rattle.build_routes.specs.Graph.{Flows, Leads, row}
use Rattle.build_routes.specs.Mask.{Bit, Has}
use Rattle.build_routes.specs.Passing.{ComesBy, IsFlowing, Passes}
use Rattle.build_routes.specs.declared.network.graph.Row.{Row}
use Rattle.build_routes.specs.declared.network.graph.Step.{Step}
use Rattle.build_routes.proofs.GraphLemmas.{row-past}

pub begins_all : (rows : List Row) (column start padded waiting : List ℕ) → ((n k : ℕ) → Has start n k → Contains waiting n)
    → length rows ≤ length padded → ((n : ℕ) → get_or padded n 0 ≡ get_or start n 0)
    → IsFlowing rows column start padded waiting
begins_all rows column start padded waiting waits size same = record {
  size = size;
  kept = λ n k has. subst (λ x. Bit x k) (sym (same n)) has;
  sound = λ n k has. Flows.begins (subst (λ x. Bit x k) (same n) has);
  closed = λ n k step has leads lets. inr (waits n k (subst (λ x. Bit x k) (same n) has));
}

-- a mask without a signal behind the others changes none
pub zero_push : (masks : List ℕ) (n : ℕ) → get_or (masks ++ 0 ∷ []) n 0 ≡ get_or masks n 0
zero_push [] zero = refl
zero_push [] (suc n) = refl
zero_push (mask ∷ masks) zero = refl
zero_push (mask ∷ masks) (suc n) = zero_push masks n

-- the node that was taken has passed on what came to it
pub goes_on : (rows : List Row) (column start old new before was waits : List ℕ) (node from : ℕ)
    → IsFlowing rows column start old before → before ≡ was ++ node ∷ [] → from ≡ get_or old node 0
    → Passes (λ n k. (step : Step) × Contains (row rows node) step × ComesBy from column step n k) old new was waits
    → IsFlowing rows column start new waits
goes_on rows column start old new before was waits node from flowing popped is passes = record {
  size = omega (arith, passes.size, flowing.size);
  kept = λ n k has. passes.kept n k (flowing.kept n k has);
  sound = λ n k has. elim (passes.just n k has) [
    | inl had ↦ flowing.sound n k had
    | inr came ↦ Flows.goes_on came.0 (flowing.sound node k (subst (λ x. Bit x k) is came.2.1)) came.1 came.2.2 (sym came.2.0)
  ];
  closed = λ n k step has leads lets. elim (passes.noted n k has) [
    | inl had ↦ elim (flowing.closed n k step had leads lets) [
      | inl at ↦ inl (passes.kept step.to k at)
      | inr waited ↦ elim (Contains-push_cases was node n (subst (λ x. Contains x n) popped waited)) [
        | inl still ↦ inr (passes.still n still)
        | inr same ↦ inl (passes.made step.to k (
          step,
          subst (λ x. Leads rows x step) (sym same) leads,
          (refl, subst (λ x. Bit x k) (sym is) (subst (λ x. Has old x k) (sym same) had), lets),
        ))
      ]
    ]
    | inr waits ↦ inr waits
  ];
}

-- nothing waits
reaches_all : (rows : List Row) (column start reached : List ℕ) → IsFlowing rows column start reached [] → (k : ℕ) {n : ℕ}
    → Flows rows column start k n → Has reached n k
reaches_all rows column start reached flowing k (Flows.begins has) = flowing.kept _ k has
reaches_all rows column start reached flowing k (Flows.goes_on step flows leads lets to) =
    elim (flowing.closed _ k step (reaches_all rows column start reached flowing k flows) leads lets) [
      | inl at ↦ subst (λ x. Has reached x k) to at
      | inr waits ↦ absurd (omega (arith, waits.1))
    ]

pub ends : (rows : List Row) (column start reached waiting : List ℕ) → IsFlowing rows column start reached waiting → waiting ≡ []
    → (n k : ℕ) → Has reached n k ↔ Flows rows column start k n
ends rows column start reached waiting flowing empty n k =
    let flown : IsFlowing rows column start reached [] = subst (λ x. IsFlowing rows column start reached x) empty flowing in
    (flown.sound n k, λ flows. reaches_all rows column start reached flown k flows)

-- a node behind the last one has no step
pub goes_past : (rows : List Row) (column start reached before was : List ℕ) (node : ℕ)
    → IsFlowing rows column start reached before → before ≡ was ++ node ∷ [] → length rows ≤ node → IsFlowing rows column start reached was
goes_past rows column start reached before was node flowing popped past = record {
  size = flowing.size;
  kept = flowing.kept;
  sound = flowing.sound;
  closed = λ n k step has leads lets. elim (flowing.closed n k step has leads lets) [
    | inl at ↦ inl at
    | inr waited ↦ elim (Contains-push_cases was node n (subst (λ x. Contains x n) popped waited)) [
      | inl still ↦ inr still
      | inr same ↦
          let here : Contains [] step = subst (λ steps. Contains steps step) (row-past rows node past) (subst (λ x. Leads rows x step) (sym same) leads) in
          absurd (omega (arith, here.1))
    ]
  ];
}

-- the masks were lent to be changed
pub goes_on_lent : (rows : List Row) (column start old lent new back before was waits : List ℕ) (steps : List Step) (node from : ℕ)
    → IsFlowing rows column start old before → before ≡ was ++ node ∷ [] → from ≡ get_or old node 0 → steps ≡ row rows node
    → lent ≡ old → back ≡ new
    → Passes (λ n k. (step : Step) × Contains steps step × ComesBy from column step n k) lent new was waits
    → IsFlowing rows column start back waits
goes_on_lent rows column start old lent new back before was waits steps node from flowing popped is at same written passes =
    subst (λ x. IsFlowing rows column start x waits) (sym written)
    (goes_on rows column start old new before was waits node from flowing popped is
    (subst (λ x. Passes (λ n k. (step : Step) × Contains (row rows node) step × ComesBy from column step n k) x new was waits) same
    (subst (λ x. Passes (λ n k. (step : Step) × Contains x step × ComesBy from column step n k) lent new was waits) at passes)))

pub written_back : (old new : List ℕ) (n : ℕ) → n ≡ length old → length new ≡ length old → take n (new ++ drop (length new) old) ≡ new
written_back old new n size same = grind (arith, common_steps)

pub none_left : (xs : List ℕ) → length xs ≡ 0 → xs ≡ []
none_left [] empty = refl
none_left (x ∷ xs) empty = absurd (omega arith)
