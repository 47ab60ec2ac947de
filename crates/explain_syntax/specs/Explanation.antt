-- The text of an explanation.
use Rattle.std.specs.Prelude.{ℕ, List, [], ◌∷◌, ◌++◌, Option, None, Some}
use Rattle.std.specs.String.{string_bytes}
use Rattle.explain_syntax.specs.Origin.{line_number, location}
use Rattle.explain_syntax.specs.Rows.{rows}
use Rattle.explain_syntax.specs.declared.lines.excerpt.Excerpt.{Excerpt}
use Rattle.explain_syntax.specs.declared.lines.explanation.Explanation.{Explanation}
use Rattle.explain_syntax.specs.declared.lines.explanation.Other.{Other}
use Rattle.explain_syntax.specs.declared.lines.origin.Origin.{Origin}

-- the rows of an excerpt, with the number that its line has in the file
abbrev pub shown_rows : Origin → Option Excerpt → List ℕ
shown_rows origin None = []
shown_rows origin (Some excerpt) = rows (line_number origin excerpt) excerpt

-- the other place, what is said of it, and its rows
abbrev pub other_text : Origin → Option Other → List ℕ
other_text origin None = []
other_text origin (Some other) =
    location origin (Some other.excerpt) ++ (other.sentence.now ++ 10 ∷ []) ++ shown_rows origin (Some other.excerpt)

-- the place and what is said of it, the rows of its line, and the other place
abbrev pub explanation_text : Origin → Explanation → List ℕ
explanation_text origin explanation =
    location origin explanation.shown ++ (string_bytes explanation.advice.text ++ 10 ∷ [])
    ++ shown_rows origin explanation.shown ++ other_text origin explanation.other
