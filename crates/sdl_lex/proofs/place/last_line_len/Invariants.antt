use Rattle.std.proofs.Common.{◌≡◌, ◌≤◌, take}
use Rattle.sdl_lex.specs.Place.{last_line_len}
use Rattle.sdl_lex.proofs.place.last_line_len.Given as goal

abbrev pub invariant-loop-b : goal.invariant-loop-b
invariant-loop-b l = (l.len ≡ last_line_len (take l.b-index l.bytes)) × (l.len ≤ l.b-index)
