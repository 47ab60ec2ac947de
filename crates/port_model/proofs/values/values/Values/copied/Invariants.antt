use Rattle.std.proofs.Common.{◌≡◌, ◌++◌, drop, length}
use Rattle.port_model.proofs.values.values.Values.copied.Given as goal

abbrev pub invariant-loop-value : goal.invariant-loop-value
invariant-loop-value l = (l.copy ++ drop l.value-index l.value-items ≡ l.value-items) × (length l.copy ≡ l.value-index)
