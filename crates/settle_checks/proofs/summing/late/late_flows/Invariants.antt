use Rattle.std.proofs.Common.{take}
use Rattle.settle_checks.specs.Late.{IsRestOf}
use Rattle.settle_checks.proofs.summing.late.late_flows.Given as goal

abbrev pub invariant-loop-pass : goal.invariant-loop-pass
invariant-loop-pass l =
    IsRestOf (take l.pass-index l.passes) l.number l.missing l.born l.rest.missing l.rest.flows
