use Rattle.std.proofs.Common.{◌≡◌, take}
use Rattle.settle_meaning.specs.Identities.{identities_of}
use Rattle.settle_checks.proofs.summing.made.are_of.Given as goal

abbrev pub invariant-loop-index : goal.invariant-loop-index
invariant-loop-index l =
    identities_of (take l.index l.records) ≡ take l.index l.made
