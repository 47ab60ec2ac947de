use Rattle.std.proofs.Common.{◌≡◌, ◌≤◌, ◌+◌, ◌++◌, length, map, All, vec_len, vec_capacity}
use Rattle.port_model.specs.Left.{got_of, HasItsFuse, IsFused}
use Rattle.port_model.proofs.inbox.fused.entries.Given as goal

abbrev pub invariant-loop-got : goal.invariant-loop-got
invariant-loop-got l =
    (map got_of l.list.items ++ l.waiting.items ≡ l.fn.waiting.items) × All (HasItsFuse l.pid l.timers.armed) l.list.items
    × All (IsFused l.timers.timers) l.waiting.items × (vec_len l.list + length l.waiting.items ≤ vec_capacity l.list)

abbrev pub decreases-loop-got : goal.decreases-loop-got
decreases-loop-got l = length l.waiting.items
