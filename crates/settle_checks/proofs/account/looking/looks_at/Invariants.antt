use Rattle.std.proofs.Common.{◌≡◌, take}
use Rattle.settle_checks.proofs.account.looking.looks_at.Given as goal

abbrev pub invariant-loop-trace : goal.invariant-loop-trace
invariant-loop-trace l = l.looks.items ≡ take l.trace-index l.records
