use Rattle.std.proofs.Common.{rules}
use Rattle.sdl_lex.proofs.MarkLemmas.{found_blank}
use Rattle.sdl_lex.proofs.piece.cut.Goals as goal

pub returns-then-is_blank : goal.returns-then-is_blank
returns-then-is_blank c = found_blank c.args.bytes.now c.requires (search rules)
