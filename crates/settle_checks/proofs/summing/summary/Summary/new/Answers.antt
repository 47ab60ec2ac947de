-- The summary has these parts.
use Rattle.settle_checks.proofs.summing.summary.Summary.new.Goals as goal

pub returns : goal.returns
returns c = λ process. record {
  course = c.new.ensures;
  fate = c.new-2.ensures;
  creating = c.new-3.ensures;
  sending = c.new-4.ensures process;
  taking = c.new-5.ensures;
}
