use Rattle.settle_checks.proofs.RowLemmas.{IsRowTo}
use Rattle.settle_checks.proofs.account.putting.row_of.Given as goal

abbrev pub invariant-loop-number : goal.invariant-loop-number
invariant-loop-number g l = IsRowTo l.peers l.number l.row.items
