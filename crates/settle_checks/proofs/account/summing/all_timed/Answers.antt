-- The summary is that of the record.
use Rattle.std.proofs.Common.{rules}
use Rattle.settle_checks.proofs.TimedLemmas.{summary_of_both}
use Rattle.settle_checks.proofs.account.summing.all_timed.Goals as goal

pub is_timed-requires : goal.is_timed-requires
is_timed-requires c =
    summary_of_both c.args.records.now c.args.sums.now c.loop-k.k c.index-records-k-in-loop-k.result
    c.index-sums-k.result c.requires (search rules) c.index-records-k-in-loop-k.is c.index-sums-k.is
