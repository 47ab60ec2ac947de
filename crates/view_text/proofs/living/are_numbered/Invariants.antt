use Rattle.std.proofs.Common.{◌≡◌, ◌+◌, length}
use Rattle.view_text.specs.Numbered.{are_numbered}
use Rattle.view_text.proofs.living.are_numbered.Given as goal

abbrev pub invariant-rest : goal.invariant-rest
invariant-rest l = record {
  same : are_numbered 1 l.fn.records ≡ are_numbered l.number l.rest;
  passed : l.number + length l.rest ≡ 1 + length l.fn.records;
}

abbrev pub decreases-rest : goal.decreases-rest
decreases-rest l = length l.rest
