use Rattle.std.proofs.Common.{sym, ◌∙◌}
use Rattle.sdl_lex.proofs.MarkLemmas.{bad_byte, found_mark}
use Rattle.sdl_lex.proofs.piece.mark.Goals as goal

pub returns-then-len-eq0 : goal.returns-then-len-eq0
returns-then-len-eq0 c = bad_byte c.args.bytes.now c.requires.some c.requires.other (sym c.mark_len-len.ensures ∙ c.if-len-eq0.true)

pub returns : goal.returns
returns c = found_mark c.args.bytes.now c.mark_len-len.result c.requires.no_comment c.mark_len-len.ensures c.if-len-eq0.false
