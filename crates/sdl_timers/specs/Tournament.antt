-- The tree that knows which slot is due first.
use Rattle.std.specs.Prelude.{◌≡◌, ℕ, ◌+◌, ◌*◌, ◌<◌, ◌≤◌, List, Option, None, length, slice_index_or}
use Rattle.sdl_timers.specs.declared.due.Due.{Due}
use Rattle.sdl_timers.specs.DueOrder.{earlier, IsUpTo}

-- when each entrant is due
abbrev pub DueList : Type 0
DueList = List (Option Due)

abbrev pub node_at : List (Option Due) → ℕ → Option Due
node_at nodes node = slice_index_or nodes node None

-- a node has the earlier one of the two below it
abbrev pub IsWon : List (Option Due) → ℕ → Type 0
IsWon nodes node = node_at nodes node ≡ earlier (node_at nodes (2 * node)) (node_at nodes (2 * node + 1))

-- and each node above the leaves has
pub record IsPlayed (nodes : List (Option Due)) : Type 0 where
  pub long : length nodes ≡ 512
  pub won : (node : ℕ) → 1 ≤ node → node < 256 → IsWon nodes node

-- what one of 256 entrants has, such that no other is due before it
pub record IsLeastOf (entrants : List (Option Due)) (least : Option Due) : Type 0 where
  pub entrant : ℕ
  pub below : entrant < 256
  pub among : node_at entrants entrant ≡ least
  pub first : (other : ℕ) → other < 256 → IsUpTo least (node_at entrants other)
