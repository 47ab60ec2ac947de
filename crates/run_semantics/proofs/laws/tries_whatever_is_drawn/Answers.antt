-- The same continuous signal begins, whatever is drawn: a lemma says so.
use Rattle.std.proofs.Common.{sym}
use Rattle.run_semantics.proofs.Same.{tried_drawn}
use Rattle.run_semantics.proofs.laws.tries_whatever_is_drawn.Goals as goal

pub returns : goal.returns
returns c d who q s signals pid news = sym (tried_drawn d who q s signals pid news)
