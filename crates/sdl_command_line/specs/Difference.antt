-- The first line in which two texts differ.
use Rattle.std.specs.Prelude.{◌≡◌, ◌≢◌, ℕ, List, Option, Some, None, length, slice_get, take}
use Rattle.std.specs.Borrow.{Bor}
use Rattle.sdl_command_line.specs.Lines.{texts_of}
use Rattle.sdl_command_line.specs.declared.expected.difference.Difference.{Difference}

-- the text of a line, if there is one
abbrev pub text_of : Option (Bor (List ℕ)) → Option (List ℕ)
text_of None = None
text_of (Some line) = Some line.now

-- Both begin with the same lines. The next line of the one isn't that of the other; one that is over has none.
pub record IsFirstDifference (wanted told : List (List ℕ)) (found : Difference) : Type 0 where
  pub wanted_begins : take (length found.same.now) wanted ≡ texts_of found.same.now
  pub told_begins : take (length found.same.now) told ≡ texts_of found.same.now
  pub wanted_line : text_of found.wanted ≡ slice_get wanted (length found.same.now)
  pub told_line : text_of found.told ≡ slice_get told (length found.same.now)
  pub differ : text_of found.wanted ≢ text_of found.told
