use Rattle.std.proofs.Common.{◌≡◌, ◌++◌, ◌+◌, length}
use Rattle.std.specs.VecDeque.{deque_capacity, deque_len}
use Rattle.threads_instance.proofs.queue.injector.move_first.Given as goal

-- so many are moved, no number is lost, and none comes twice
abbrev pub invariant-loop-moved : goal.invariant-loop-moved
invariant-loop-moved l = record {
  numbers : l.to.items ++ l.from.items ≡ l.fn.to.items ++ l.fn.from.items;
  moved : length l.to.items ≡ length l.fn.to.items + l._moved;
  left : deque_len l.from + l._moved ≡ deque_len l.fn.from;
  came : deque_len l.to ≡ deque_len l.fn.to + l._moved;
  from_capacity : deque_capacity l.from ≡ deque_capacity l.fn.from;
  to_capacity : deque_capacity l.to ≡ deque_capacity l.fn.to;
}
