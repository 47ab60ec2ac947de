use Rattle.std.proofs.Common.{◌≡◌, ◌<◌, get_or, ℕ, List}
use Rattle.port_model.specs.declared.values.pid.Pid.TheVariants.{Of}
use Rattle.settle_checks.specs.Account.{IsPutToOne}
use Rattle.settle_checks.specs.Outputs.{AreNamed}
use Rattle.settle_meaning.specs.Puts.{Heard}
use Rattle.settle_checks.specs.declared.summing.flows.Flow.{Flow}
use Rattle.settle_checks.proofs.account.putting.put_along.Given as goal

abbrev pub invariant-loop-flow : goal.invariant-loop-flow
invariant-loop-flow g l =
    (heard : List Heard) → AreNamed heard l.named → (k : ℕ) (d : Flow) → k < l.flow-index → (number : ℕ)
    → (get_or l.flow-items k d).pass.peer ≡ Of number → IsPutToOne heard l.records l.from l.peers number
