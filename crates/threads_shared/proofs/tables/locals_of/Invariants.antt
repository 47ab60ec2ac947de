use Rattle.std.proofs.Common.{◌≡◌, ◌≤◌, vec_capacity, vec_len}
use Rattle.threads_shared.proofs.tables.locals_of.Given as goal

-- Each of the workers so far has one, and there is room for all.
abbrev pub invariant-loop-worker : goal.invariant-loop-worker
invariant-loop-worker l = (vec_len l.locals ≡ l._worker) × (l.workers ≤ vec_capacity l.locals)
