use Rattle.std.proofs.Common.{◌≡◌, drop}
use Rattle.explain_syntax.specs.Scan.{first_such, is_mark_from, semicolon_after}
use Rattle.explain_syntax.proofs.rests.scan.semicolon_after.Given as goal
use Rattle.sdl_tree.specs.declared.mark.Mark.TheVariants as mark

abbrev pub invariant-loop-at : goal.invariant-loop-at
invariant-loop-at l =
    first_such (is_mark_from mark.Semicolon l.from) l.at (drop l.at l.words) ≡ semicolon_after l.words l.from
