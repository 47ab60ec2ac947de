-- The summary tells when it starts.
use Rattle.settle_checks.proofs.StartLemmas.{starts_at}
use Rattle.settle_checks.proofs.summing.starts.starts_first.Goals as goal

pub returns-in-Null : goal.returns-in-Null
returns-in-Null c = λ right first.
    starts_at c.args.trace.now c.args.sum.now 0 c.requires (c.starts_at.ensures right)
