use Rattle.std.proofs.Common.{◌≡◌, ◌+◌, ◌≤◌, ◌++◌, length}
use Rattle.std.specs.VecDeque.{deque_capacity}
use Rattle.port_model.specs.Passed.{gots_in}
use Rattle.port_model.proofs.backlog.Backlog.pass_back.Given as goal

abbrev pub invariant-loop-got : goal.invariant-loop-got
invariant-loop-got l = record {
  same : gots_in l.self-inside.passed ++ l.self-inside.rest.items ≡ gots_in l.initial.self-inside.passed ++ l.initial.self-inside.rest.items;
  fits : length l.self-inside.passed + length l.self-inside.rest.items ≤ deque_capacity l.self-inside.rest;
}

abbrev pub decreases-loop-got : goal.decreases-loop-got
decreases-loop-got l = length l.self-inside.passed
