-- The place after the bytes so far, and no further than there are bytes.
use Rattle.std.proofs.Common.{◌≡◌, ◌+◌, ◌≤◌, take}
use Rattle.std.specs.List.{count_by}
use Rattle.sdl_lex.specs.Place.{is_line_end, last_line_len}
use Rattle.parse_expressions.proofs.word.moved.Given as goal

abbrev pub invariant-loop-at : goal.invariant-loop-at
invariant-loop-at l =
    (l.line ≡ count_by is_line_end (take l.at l.text) + 1) × (l.line ≤ l.at + 1)
    × (l.column ≡ last_line_len (take l.at l.text) + 1) × (l.column ≤ l.at + 1)
