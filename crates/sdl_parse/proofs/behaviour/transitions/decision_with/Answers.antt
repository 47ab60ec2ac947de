use Rattle.sdl_tree.proofs.ViewLemmas.{decision_value}
use Rattle.sdl_parse.proofs.behaviour.transitions.decision_with.Goals as goal

pub returns : goal.returns
returns c = decision_value c.args.word c.args.question c.args.parts c.args.otherwise
