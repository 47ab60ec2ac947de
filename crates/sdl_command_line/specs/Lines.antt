-- The lines of a text.
use Rattle.std.specs.Prelude.{ℕ, ◌==◌, List, [], ◌∷◌, if◌then◌else◌, map}
use Rattle.std.specs.Borrow.{Bor}

-- a byte before what follows it in its line
abbrev pub put_before : ℕ → List (List ℕ) → List (List ℕ)
put_before byte [] = (byte ∷ []) ∷ []
put_before byte (line ∷ more) = (byte ∷ line) ∷ more

-- The lines, each with the LF that ends it. The last one may lack it.
abbrev pub lines : List ℕ → List (List ℕ)
lines [] = []
lines (byte ∷ more) = if byte == 10 then (byte ∷ []) ∷ lines more else put_before byte (lines more)

-- the texts of some lines
abbrev pub texts_of : List (Bor (List ℕ)) → List (List ℕ)
texts_of all = map (λ line. line.now) all
