use Rattle.std.proofs.Common.{◌≡◌, drop}
use Rattle.sdl_warnings.specs.Unset.{is_in_expression}
use Rattle.sdl_warnings.proofs.assigned.is_in_expression.Given as goal

abbrev pub invariant-loop-word : goal.invariant-loop-word
invariant-loop-word l = is_in_expression l.name (drop l.word-index l.words) ≡ is_in_expression l.name l.words
