use Rattle.sdl_tree.proofs.ViewLemmas.{active_value}
use Rattle.parse_expressions.proofs.expressions.active_with.Goals as goal

pub returns : goal.returns
returns c = active_value c.args.word c.args.timer c.args.values
