-- A graph whose steps are open to some signals, and which signals flow where.
use Rattle.std.specs.Prelude.{◌≡◌, ℕ, zero, suc, ◌⊎◌, ◌<◌, List, [], ◌∷◌, length}
use Rattle.std.specs.List.{Contains}
use Rattle.build_routes.specs.Mask.{Has, Lets}
use Rattle.build_routes.specs.declared.network.graph.Row.{Row}
use Rattle.build_routes.specs.declared.network.graph.Step.{Step}

-- the steps that lead on from the n-th node
abbrev pub row : List Row → ℕ → List Step
row [] n = []
row (first ∷ rows) zero = first.steps.items
row (first ∷ rows) (suc n) = row rows n

-- the step leads on from this node
abbrev pub Leads : List Row → ℕ → Step → Type 0
Leads rows n step = Contains (row rows n) step

-- each step ends at a node of the graph
abbrev pub IsClosed : List Row → Type 0
IsClosed rows = (n : ℕ) (step : Step) → Leads rows n step → step.to < length rows

-- just these steps were added
pub record Adds (R : ℕ → Step → Type 0) (old new : List Row) : Type 0 where
  pub kept : (n : ℕ) (step : Step) → Leads old n step → Leads new n step
  pub made : (n : ℕ) (step : Step) → R n step → Leads new n step
  pub just : (n : ℕ) (step : Step) → Leads new n step → Leads old n step ⊎ R n step

-- the signal at place k flows to a node: it begins there, or comes by a step that lets it pass
pub data Flows (rows : List Row) (column start : List ℕ) (k : ℕ) : ℕ → Type 0 where
  begins : {n : ℕ} → Has start n k → Flows rows column start k n
  goes_on : {n m : ℕ} (step : Step) → Flows rows column start k n → Leads rows n step → Lets column step.only k → step.to ≡ m → Flows rows column start k m
