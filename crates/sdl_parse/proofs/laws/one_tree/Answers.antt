use Rattle.sdl_parse.proofs.ParserLemmas.{one}
use Rattle.sdl_parse.proofs.laws.one_tree.Goals as goal

pub returns : goal.returns
returns c = one c.one_list.ensures
