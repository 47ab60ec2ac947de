use Rattle.std.proofs.Common.{◌≡◌, ◌++◌, map, take}
use Rattle.explain_syntax.specs.Rows.{shown_byte}
use Rattle.explain_syntax.proofs.lines.rows.push_shown.Given as goal

abbrev pub invariant-loop-byte : goal.invariant-loop-byte
invariant-loop-byte l = l.text.items ≡ l.initial.text.items ++ map shown_byte (take l.byte-index l.bytes)
