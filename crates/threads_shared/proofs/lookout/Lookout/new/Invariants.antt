use Rattle.std.proofs.Common.{◌≡◌, replicate}
use Rattle.threads_shared.proofs.lookout.Lookout.new.Given as goal

-- Of the workers so far none is known to have come.
abbrev pub invariant-loop-worker : goal.invariant-loop-worker
invariant-loop-worker l = l.visits.items ≡ replicate l._worker 0
