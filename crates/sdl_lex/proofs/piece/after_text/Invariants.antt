use Rattle.std.proofs.Common.{◌≡◌, ◌≤◌, length}
use Rattle.sdl_lex.specs.Piece.{after_text}
use Rattle.sdl_lex.proofs.piece.after_text.Given as goal

abbrev pub invariant-loop-rest : goal.invariant-loop-rest
invariant-loop-rest l = record {
  same : after_text l.rest ≡ after_text l.fn.body;
  suffix : length l.rest ≤ length l.fn.body;
}

abbrev pub decreases-loop-rest : goal.decreases-loop-rest
decreases-loop-rest l = length l.rest
