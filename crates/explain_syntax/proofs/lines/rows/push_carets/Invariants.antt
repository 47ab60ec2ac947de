use Rattle.std.proofs.Common.{◌≡◌, ◌++◌}
use Rattle.std.specs.Prelude.{replicate}
use Rattle.explain_syntax.proofs.lines.rows.push_carets.Given as goal

abbrev pub invariant-loop-caret : goal.invariant-loop-caret
invariant-loop-caret l = l.text.items ≡ l.initial.text.items ++ replicate l._caret 94
