use Rattle.sdl_lex.proofs.PartLemmas.{one_list}
use Rattle.sdl_lex.proofs.lexer.one_list.Goals as goal

pub returns : goal.returns
returns c = one_list
