use Rattle.std.proofs.Common.{◌≡◌, ◌++◌, ◌+◌, ◌-◌, length}
use Rattle.settle_meaning.specs.Identities.{first_of}
use Rattle.settle_checks.proofs.summing.made.add_instances.Given as goal

abbrev pub invariant-loop-turn : goal.invariant-loop-turn
invariant-loop-turn l =
    l.made.items ++ first_of (length l.made.items + 1) l.process (l.count - l.turn)
    ≡ l.initial.made.items ++ first_of (length l.initial.made.items + 1) l.process l.count
