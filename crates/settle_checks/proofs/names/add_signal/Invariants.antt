use Rattle.settle_checks.specs.Names.{AddsNamed}
use Rattle.settle_checks.proofs.names.add_signal.Given as goal

abbrev pub invariant-loop-value : goal.invariant-loop-value
invariant-loop-value l =
    AddsNamed l.fn.named.items l.signal l.named.items
