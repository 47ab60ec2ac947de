use Rattle.input_port.proofs.Headline.{nothing_is_left as law}
use Rattle.input_port.proofs.laws.nothing_is_left.Goals as goal

pub returns : goal.returns
returns c = law
