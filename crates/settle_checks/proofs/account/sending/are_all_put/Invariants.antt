use Rattle.std.proofs.Common.{◌≡◌, ◌<◌, ◌≤◌, get_or, length, ℕ}
use Rattle.port_model.specs.declared.values.pid.Pid.TheVariants.{Of}
use Rattle.settle_checks.specs.Totals.{total}
use Rattle.settle_checks.specs.declared.summing.flows.Flow.{Flow}
use Rattle.threads_ports.specs.Peers.{put_to}
use Rattle.settle_checks.proofs.account.sending.are_all_put.Given as goal

abbrev pub invariant-loop-flow : goal.invariant-loop-flow
invariant-loop-flow g l =
    (k : ℕ) (d : Flow) (number : ℕ) → k < l.flow-index → (get_or l.flows k d).pass.peer ≡ Of number
    → total l.totals number ≤ length (put_to l.peers number)
