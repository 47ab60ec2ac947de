-- What is passed of a mark that may stand next.
use Rattle.std.specs.Prelude.{◌≡◌, true, false, Option, Some, None, Ok}
use Rattle.sdl_tree.specs.declared.mark.Mark.{Mark}
use Rattle.sdl_tree.specs.declared.name.Spelling.{Spelling}
use Rattle.sdl_tree.specs.Words.{Words}
use Rattle.parse_expressions.specs.Reading.{expect, sees}

-- The mark stands first in the words, and is read from them; or it doesn't, and they are left.
abbrev pub Taken : Mark → Words → Option Spelling → Words → Type 0
Taken m i None j = (sees m i ≡ false) × (j ≡ i)
Taken m i (Some w) j = (sees m i ≡ true) × (expect m i ≡ Ok (w, j))
