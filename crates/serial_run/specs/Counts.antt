-- How many instances live.
use Rattle.std.specs.Prelude.{◌≤◌, ℕ, List, All}

-- of no process more live than numbers were given
abbrev pub AreUpTo : ℕ → List ℕ → Type 0
AreUpTo given counts = All (λ count. count ≤ given) counts
