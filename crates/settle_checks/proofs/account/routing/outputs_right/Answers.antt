-- The summary is that of the record.
use Rattle.std.proofs.Common.{rules}
use Rattle.settle_checks.proofs.TimedLemmas.{summary_of_both}
use Rattle.settle_checks.proofs.account.routing.outputs_right.Goals as goal

pub are_meant-requires-clause-sum : goal.are_meant-requires-clause-sum
are_meant-requires-clause-sum c =
    summary_of_both c.args.records.now c.args.sums.now c.loop-k.k c.index-records-k.result c.index-sums-k.result
    c.requires.sums (search rules) c.index-records-k.is c.index-sums-k.is
