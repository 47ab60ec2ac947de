use Rattle.std.proofs.Common.{◌≡◌, codes, refl, subst, sym}
use Rattle.sdl_lex.specs.ErrorText.{lex_text}
use Rattle.sdl_engine.specs.RefusalText.{line_of}
use Rattle.sdl_engine.proofs.refusal_text.fixed_lex_line.Goals as goal

pub returns-in-TooLong : goal.returns-in-TooLong
returns-in-TooLong c = subst (λ r. line_of (codes "lex 1:1 TooLong") ≡ line_of (lex_text r)) (sym c.in-TooLong.is) refl

pub returns-in-Memory : goal.returns-in-Memory
returns-in-Memory c = subst (λ r. line_of (codes "lex Memory") ≡ line_of (lex_text r)) (sym c.in-Memory.is) refl
