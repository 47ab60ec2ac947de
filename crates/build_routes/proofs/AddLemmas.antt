-- Steps that are added one after the other.
use Rattle.std.proofs.Common.{ℕ, ◌⊎◌, ◌↔◌, List, inl, inr}
use Rattle.build_routes.specs.Graph.{Adds, Leads}
use Rattle.build_routes.specs.declared.network.graph.Row.{Row}
use Rattle.build_routes.specs.declared.network.graph.Step.{Step}

pub adds_nothing : (R : ℕ → Step → Type 0) (rows : List Row) → ((n : ℕ) (step : Step) → R n step → ⊥) → Adds R rows rows
adds_nothing R rows none = record {
  kept = λ n step leads. leads;
  made = λ n step r. absurd (none n step r);
  just = λ n step leads. inl leads;
}

pub adds_more : (P Q R : ℕ → Step → Type 0) (a b c : List Row) → Adds P a b → Adds Q b c
    → ((n : ℕ) (step : Step) → R n step → P n step ⊎ Q n step)
    → ((n : ℕ) (step : Step) → P n step → R n step) → ((n : ℕ) (step : Step) → Q n step → R n step) → Adds R a c
adds_more P Q R a b c p q parts left right = record {
  kept = λ n step leads. q.kept n step (p.kept n step leads);
  made = λ n step r. elim (parts n step r) [ inl first ↦ q.kept n step (p.made n step first) | inr then ↦ q.made n step then ];
  just = λ n step leads. elim (q.just n step leads) [
    | inl before ↦ elim (p.just n step before) [ inl old ↦ inl old | inr first ↦ inr (left n step first) ]
    | inr then ↦ inr (right n step then)
  ];
}

-- the same steps in other words
pub adds_same : (P R : ℕ → Step → Type 0) (a b : List Row) → Adds P a b
    → ((n : ℕ) (step : Step) → R n step → P n step) → ((n : ℕ) (step : Step) → P n step → R n step) → Adds R a b
adds_same P R a b p back on = record {
  kept = p.kept;
  made = λ n step r. p.made n step (back n step r);
  just = λ n step leads. elim (p.just n step leads) [ inl old ↦ inl old | inr new ↦ inr (on n step new) ];
}

pub adds_either : (P Q : ℕ → Step → Type 0) (a b c : List Row) → Adds P a b → Adds Q b c → Adds (λ n step. P n step ⊎ Q n step) a c
adds_either P Q a b c p q = adds_more P Q (λ n step. P n step ⊎ Q n step) a b c p q (λ n step either. either) (λ n step r. inl r) (λ n step r. inr r)

-- steps that were added to none
pub just_added : (R : ℕ → Step → Type 0) (a b : List Row) → ((n : ℕ) (step : Step) → Leads a n step → ⊥) → Adds R a b
    → (n : ℕ) (step : Step) → Leads b n step ↔ R n step
just_added R a b none adds n step =
    (λ leads. elim (adds.just n step leads) [ inl old ↦ absurd (none n step old) | inr r ↦ r ], adds.made n step)
