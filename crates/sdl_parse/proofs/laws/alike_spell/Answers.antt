use Rattle.parse_expressions.proofs.Grammar.{limit}
use Rattle.sdl_parse.proofs.SystemLaws.{specification_moves}
use Rattle.sdl_parse.proofs.laws.alike_spell.Goals as goal

pub returns : goal.returns
returns c = specification_moves limit
