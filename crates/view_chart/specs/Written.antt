-- What a writer has got of a picture.
use Rattle.std.specs.Prelude.{ℕ, List, Option}
use Rattle.std.specs.Io.KnownBytes.{Appends}
use Rattle.sdl_report.specs.Gathered.{BreaksOff}

-- a text has gone out
abbrev pub IsWritten : Option (List ℕ) → Option (List ℕ) → Type 0
IsWritten held held' = (text : List ℕ) × Appends held held' text

-- a beginning of a text has gone out, and not all of it
abbrev pub IsBrokenOff : Option (List ℕ) → Option (List ℕ) → Type 0
IsBrokenOff held held' = (text : List ℕ) × BreaksOff held held' text
