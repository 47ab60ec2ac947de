-- A difference, as it is shown.
use Rattle.std.specs.Prelude.{ℕ, nat_eq, nat_le, ◌-◌, ◌==◌, ◌&&◌, ◌||◌, List, Option, Some, None, [], ◌++◌, codes, drop, length, map, if◌then◌else◌}
use Rattle.std.specs.List.{ends_with, flat_map}
use Rattle.sdl_command_line.specs.Difference.{text_of}
use Rattle.sdl_command_line.specs.Lines.{texts_of}
use Rattle.sdl_command_line.specs.declared.expected.difference.Difference.{Difference}

-- printable bytes, tabs and line ends are shown as they are, others as a question mark
abbrev pub shown_byte : ℕ → ℕ
shown_byte byte = if (nat_le 32 byte && nat_le byte 126) || (byte == 9) || (byte == 10) then byte else 63

-- what follows a line, if it has no end
abbrev pub end_text : List ℕ → List ℕ
end_text line = if ends_with nat_eq line (codes "\n") then [] else codes " (without a line end)\n"

-- a line with its end
abbrev pub shown_line : List ℕ → List ℕ
shown_line line = map shown_byte line ++ end_text line

abbrev pub row : List ℕ → List ℕ → List ℕ
row mark line = mark ++ shown_line line

-- the next line, or that there is none
abbrev pub next_row : List ℕ → Option (List ℕ) → List ℕ
next_row mark None = mark ++ codes "(the end)\n"
next_row mark (Some line) = row mark line

-- the last of the lines that are the same, three at most
abbrev pub context_of : Difference → List (List ℕ)
context_of found = texts_of (drop (length found.same.now - 3) found.same.now)

-- The heading; the context; the wanted line after a `-`, and the one in its place after a `+`.
abbrev pub difference_text : List ℕ → Difference → List ℕ
difference_text heading found =
    heading ++ codes "\n" ++ flat_map (row (codes "  ")) (context_of found)
    ++ next_row (codes "- ") (text_of found.wanted) ++ next_row (codes "+ ") (text_of found.told)
