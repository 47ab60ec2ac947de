-- Text that goes out, and text that is gathered before it does.
use Rattle.std.specs.Prelude.{◌≡◌, ℕ, ◌<◌, List, ◌++◌, length, take, Option}
use Rattle.std.specs.Io.KnownBytes.{Appends}

-- a beginning of the text has gone out, and not all of it
abbrev pub BreaksOff : Option (List ℕ) → Option (List ℕ) → List ℕ → Type 0
BreaksOff held held' text = (k : ℕ) × (k < length text) × Appends held held' (take k text)

-- the bytes came behind the gathered text, of which a part has gone out, and the rest is gathered still
abbrev pub Grows : Option (List ℕ) → List ℕ → Option (List ℕ) → List ℕ → List ℕ → Type 0
Grows held gathered held' gathered' bytes =
    (sent : List ℕ) × Appends held held' sent × (sent ++ gathered' ≡ gathered ++ bytes)

-- the bytes were to come behind the gathered text, and of both a beginning has gone out, and not all
abbrev pub Breaks : Option (List ℕ) → List ℕ → Option (List ℕ) → List ℕ → Type 0
Breaks held gathered held' bytes =
    (sent lost : List ℕ) × Appends held held' sent × (sent ++ lost ≡ gathered ++ bytes) × (0 < length lost)
