use Rattle.std.proofs.Common.{length}
use Rattle.sdl_lex.proofs.LexerLemmas.{CutSoFar}
use Rattle.sdl_lex.proofs.lexer.lex.Given as goal

abbrev pub invariant-loop-rest : goal.invariant-loop-rest
invariant-loop-rest l = CutSoFar l.text l.rest l.tokens.items

abbrev pub decreases-loop-rest : goal.decreases-loop-rest
decreases-loop-rest l = length l.rest
