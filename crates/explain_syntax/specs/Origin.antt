-- The place in a file at which a part of the input has an excerpt.
use Rattle.std.specs.Prelude.{ℕ, ◌+◌, ◌-◌, ◌^◌, min, List, [], ◌++◌, Option, None, Some, codes}
use Rattle.std.specs.Fmt.{decimal}
use Rattle.explain_syntax.specs.declared.lines.excerpt.Excerpt.{Excerpt}
use Rattle.explain_syntax.specs.declared.lines.origin.Origin.{Origin}

-- the number of the line in the file
abbrev pub line_number : Origin → Excerpt → ℕ
line_number origin excerpt = min (excerpt.place.line + origin.lines_before) (2 ^ 64 - 1)

-- a colon and a number
abbrev pub numbered : ℕ → List ℕ
numbered number = codes ":" ++ decimal number

-- the line and the column; nothing if there is no place
abbrev pub place_text : Origin → Option Excerpt → List ℕ
place_text origin None = []
place_text origin (Some excerpt) = numbered (line_number origin excerpt) ++ numbered excerpt.place.column

-- the name of the file with the line and the column, as editors read them
abbrev pub location : Origin → Option Excerpt → List ℕ
location origin shown = origin.name.now ++ place_text origin shown ++ codes ": "
