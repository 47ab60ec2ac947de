use Rattle.std.proofs.Common.{◌≡◌, ◌++◌, map, take}
use Rattle.explain_syntax.specs.Rows.{blank_for}
use Rattle.explain_syntax.proofs.lines.rows.push_blanks.Given as goal

abbrev pub invariant-loop-byte : goal.invariant-loop-byte
invariant-loop-byte l = l.text.items ≡ l.initial.text.items ++ map blank_for (take l.byte-index l.bytes)
