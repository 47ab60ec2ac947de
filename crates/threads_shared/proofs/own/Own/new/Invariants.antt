use Rattle.std.proofs.Common.{◌≡◌, None, replicate}
use Rattle.threads_shared.proofs.own.Own.new.Given as goal

-- Of the processes so far nobody is known to live.
abbrev pub invariant-loop-process : goal.invariant-loop-process
invariant-loop-process g l = l.living.items ≡ replicate l._process None
