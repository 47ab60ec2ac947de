-- The place after the bytes so far, and that none of them stood at the one that is looked for.
use Rattle.std.proofs.Common.{◌≡◌, ◌≢◌, ℕ, ◌+◌, ◌<◌, ◌≤◌, take}
use Rattle.std.specs.List.{count_by}
use Rattle.sdl_lex.specs.Place.{is_line_end, last_line_len, place_after}
use Rattle.explain_syntax.proofs.lines.offset.offset_of.Given as goal

abbrev pub invariant-loop-at : goal.invariant-loop-at
invariant-loop-at l = record {
  line : l.line ≡ count_by is_line_end (take l.at l.text) + 1;
  line_fits : l.line ≤ l.at + 1;
  column : l.column ≡ last_line_len (take l.at l.text) + 1;
  column_fits : l.column ≤ l.at + 1;
  none : (k : ℕ) → k < l.at → place_after (take k l.text) ≢ l.place;
}
