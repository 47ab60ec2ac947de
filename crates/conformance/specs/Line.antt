-- The first line of a text.
use Rattle.std.specs.Prelude.{ℕ, ◌==◌, List, Option, Some, None, position, take}

-- the text before this place, or all of it where there is none
abbrev pub text_to : Option ℕ → List ℕ → List ℕ
text_to (Some at) text = take at text
text_to None text = text

-- what stands before the first line end
abbrev pub first_line : List ℕ → List ℕ
first_line text = text_to (position (λ b. b == 10) text) text
