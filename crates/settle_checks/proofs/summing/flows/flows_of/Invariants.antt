use Rattle.std.proofs.Common.{take}
use Rattle.settle_checks.specs.Flows.{AreFlows}
use Rattle.settle_checks.proofs.summing.flows.flows_of.Given as goal

abbrev pub invariant-loop-pass : goal.invariant-loop-pass
invariant-loop-pass l =
    AreFlows (take l.pass-index l.passes) l.flows
