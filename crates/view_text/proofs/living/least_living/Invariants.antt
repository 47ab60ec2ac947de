use Rattle.std.proofs.Common.{◌≡◌, ℕ, map, nat_eq}
use Rattle.indexmap.specs.IndexSet.{contains}
use Rattle.std.specs.List.{range_with_len}
use Rattle.view_text.specs.Sending.{least_of}
use Rattle.view_text.proofs.living.least_living.Given as goal

abbrev pub invariant-loop-process : goal.invariant-loop-process
invariant-loop-process l =
    l.least.items ≡ map (least_of (λ (number : ℕ). contains nat_eq l.numbers number) l.records)
    (range_with_len 0 l.process)
