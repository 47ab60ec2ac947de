use Rattle.std.proofs.Common.{take}
use Rattle.settle_checks.specs.Names.{AreNamedBy}
use Rattle.settle_meaning.specs.Puts.{signals_of}
use Rattle.settle_checks.proofs.names.named.Given as goal

abbrev pub invariant-loop-line : goal.invariant-loop-line
invariant-loop-line l =
    AreNamedBy (signals_of (take l.line-index l.lines)) l.named.items
