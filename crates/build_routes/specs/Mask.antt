-- Masks of 64 signals each, and which of the 64 a mask has.
use Rattle.std.specs.Prelude.{◌≡◌, ℕ, List, Option, None, Some, get_or}
use Rattle.std.specs.Int.{bit_at}
use Rattle.build_routes.specs.declared.network.list.ListId.{ListId}

-- the mask has the signal that stands at place k in it
abbrev pub Bit : ℕ → ℕ → Type 0
Bit mask k = bit_at mask k ≡ 1

-- so has the n-th of these masks; past their end there is none
abbrev pub Has : List ℕ → ℕ → ℕ → Type 0
Has masks n k = Bit (get_or masks n 0) k

-- the signal is among those of the list, where only those of a list may pass
abbrev pub Lets : List ℕ → Option ListId → ℕ → Type 0
Lets column None k = Unit {0}
Lets column (Some list) k = Has column list.0 k
