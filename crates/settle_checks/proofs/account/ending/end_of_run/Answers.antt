-- The tests tell it.
use Rattle.std.proofs.Common.{arith}
use Rattle.settle_checks.proofs.AccountEndLemmas.{ends_cut, ends_whole}
use Rattle.settle_checks.proofs.account.ending.end_of_run.Goals as goal

pub returns-then-ending : goal.returns-then-ending
returns-then-ending c = λ heard first.
    ends_whole c.args.ending.whole c.args.lines.now c.args.line c.args.ending.limit heard c.args.records.now
    c.last_time-end.result c.in-Some.count first c.in-Some.ensures c.if-ending.true (omega arith) (omega arith)
    c.last_time-end.ensures (omega arith)

pub returns : goal.returns
returns c = λ heard first.
    ends_cut c.args.ending.whole c.args.lines.now c.args.line c.args.ending.limit heard c.args.records.now
    c.new.result c.in-Some.count first c.in-Some.ensures c.if-ending.false (omega arith) (omega arith)
