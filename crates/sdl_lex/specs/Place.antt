-- Lines and columns, from 1. A line ends at LF alone.
use Rattle.std.specs.Prelude.{ℕ, ◌+◌, Bool, not, ◌==◌, List, ◌++◌, codes}
use Rattle.std.specs.Fmt.{decimal}
use Rattle.std.specs.List.{count_by, suffix_len}
use Rattle.sdl_lex.specs.declared.place.Place.{Place}

abbrev pub is_line_end : ℕ → Bool
is_line_end b = b == 10

-- how many bytes stand after the last line end
abbrev pub last_line_len : List ℕ → ℕ
last_line_len bytes = suffix_len (λ b. not (is_line_end b)) bytes

-- the place just after these bytes
abbrev pub place_after : List ℕ → Place
place_after before = record { line = count_by is_line_end before + 1; column = last_line_len before + 1 }

-- `L:C`
abbrev pub place_text : Place → List ℕ
place_text p = decimal p.line ++ (codes ":" ++ decimal p.column)
