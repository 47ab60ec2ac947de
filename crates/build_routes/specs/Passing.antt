-- What one round of a flow changes: the masks that have come to the nodes, and the nodes that wait to be looked at.
use Rattle.std.specs.Prelude.{◌≡◌, ℕ, ◌⊎◌, ◌+◌, ◌-◌, ◌^◌, ◌<◌, ◌≤◌, List, length, slice_index_or}
use Rattle.std.specs.List.{Contains, sum_by}
use Rattle.build_routes.specs.Graph.{Flows, Leads}
use Rattle.build_routes.specs.Mask.{Bit, Has, Lets}
use Rattle.build_routes.specs.declared.network.graph.Row.{Row}
use Rattle.build_routes.specs.declared.network.graph.Step.{Step}

-- the signal comes to the node by this step, from a node that these have come to
abbrev pub ComesBy : ℕ → List ℕ → Step → ℕ → ℕ → Type 0
ComesBy from column step n k = (n ≡ step.to) × Bit from k × Lets column step.only k

-- how far the masks are from having all signals
abbrev pub missing : List ℕ → ℕ
missing masks = sum_by (λ mask. 2 ^ 64 - mask) masks

-- just what P says has come, and each node to which something has come waits
pub record Passes (P : ℕ → ℕ → Type 0) (old new was waits : List ℕ) : Type 0 where
  pub size : length new ≡ length old
  pub kept : (n k : ℕ) → Has old n k → Has new n k
  pub made : (n k : ℕ) → P n k → Has new n k
  pub just : (n k : ℕ) → Has new n k → Has old n k ⊎ P n k
  pub noted : (n k : ℕ) → Has new n k → Has old n k ⊎ Contains waits n
  pub still : (n : ℕ) → Contains was n → Contains waits n
  pub less : missing new + length waits ≤ missing old + length was

-- the element is among the first so many of the list
abbrev pub AmongFirst : {X : Type 0} → List X → ℕ → X → Type 0
AmongFirst xs count x = (j : ℕ) × (j < count) × (slice_index_or xs j x ≡ x)

-- what has come where: what began, and no signal that doesn't flow there; what came and wasn't passed on waits
pub record IsFlowing (rows : List Row) (column start reached waiting : List ℕ) : Type 0 where
  pub size : length rows ≤ length reached
  pub kept : (n k : ℕ) → Has start n k → Has reached n k
  pub sound : (n k : ℕ) → Has reached n k → Flows rows column start k n
  pub closed : (n k : ℕ) (step : Step) → Has reached n k → Leads rows n step → Lets column step.only k
      → Has reached step.to k ⊎ Contains waiting n
