-- Tokens of a text.
use Rattle.std.specs.Prelude.{ℕ, ◌≤◌, ◌<◌, List, [], ◌∷◌, drop, slice_range}
use Rattle.sdl_lex.specs.declared.token.Token.{Token}
use Rattle.sdl_lex.specs.Kind.{Is}

-- each token has a byte, begins where the one before it ends or later, and all stand between two offsets
abbrev pub InOrder : ℕ → List Token → ℕ → Type 0
InOrder from [] to = from ≤ to
InOrder from (t ∷ ts) to = (from ≤ t.start) × (t.start < t.end) × InOrder t.end ts to

-- the token is a slice of a text of this length, and not empty
abbrev pub IsWithin : ℕ → Token → Type 0
IsWithin len t = (t.start < t.end) × (t.end ≤ len)

-- the token's slice of the text is of its kind, where the text goes on as it does
abbrev pub IsSlice : List ℕ → Token → Type 0
IsSlice text t = Is t.kind (slice_range text t.start t.end) (drop t.end text)
