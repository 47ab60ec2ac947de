use Rattle.sdl_lex.proofs.FaultLemmas.{no_list, one_place}
use Rattle.sdl_lex.proofs.lexer.one_fault.Goals as goal

pub returns-clause-no_list : goal.returns-clause-no_list
returns-clause-no_list c = no_list

pub returns-clause-one_place : goal.returns-clause-one_place
returns-clause-one_place c = one_place
