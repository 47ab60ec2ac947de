use Rattle.std.proofs.Common.{◌<◌, get_or, ℕ}
use Rattle.settle_run.specs.Gifts.{GetsThese, given_by}
use Rattle.threads_instance.specs.declared.doings.Child.{Child}
use Rattle.settle_run.proofs.gifts.are_given.Given as goal

-- The children so far got theirs.
abbrev pub invariant-loop-child : goal.invariant-loop-child
invariant-loop-child l =
    (k : ℕ) (d : Child) → k < l.child-index → GetsThese (given_by l.places l.gifts) (get_or l.children k d)
