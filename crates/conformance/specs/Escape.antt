-- Texts without escapes.
use Rattle.std.specs.Prelude.{ℕ, ◌≡◌, ◌≢◌, List, [], ◌∷◌, ◌++◌, All}
use Rattle.conformance.specs.declared.escape.Piece.{Piece}
use Rattle.conformance.specs.declared.escape.Piece.TheVariants.{Byte}

-- no byte is a backslash
abbrev pub IsPlain : List ℕ → Type 0
IsPlain text = All (λ b. b ≢ 92) text

-- the first byte of the text stands for itself, and this is what follows it
abbrev pub IsPlainByte : List ℕ → Piece → List ℕ → Type 0
IsPlainByte text (Byte b) rest = text ≡ b ∷ rest
IsPlainByte text other rest = ⊥

-- a byte is appended as it is
abbrev pub PutsByte : Piece → List ℕ → List ℕ → Type 0
PutsByte (Byte b) old new = new ≡ old ++ b ∷ []
PutsByte other old new = Unit {0}
