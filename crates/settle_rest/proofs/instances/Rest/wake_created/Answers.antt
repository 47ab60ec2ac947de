use Rattle.std.proofs.Common.{arith}
use Rattle.settle_rest.proofs.instances.Rest.wake_created.Goals as goal

pub loop-ticket-preserved : goal.loop-ticket-preserved
loop-ticket-preserved g c =
    let so_far = c.loop-ticket.invariant in
    record {
      numbers = λ are. c.wake.ensures.numbers (so_far.numbers are);
      kept = λ n there. c.wake.ensures.kept n (so_far.kept n there);
      clock = so_far.clock;
      fuses = so_far.fuses;
      environment = so_far.environment;
      given = omega (arith, so_far.given);
    }

pub returns-in_err-wake-clause-numbers : goal.returns-in_err-wake-clause-numbers
returns-in_err-wake-clause-numbers g c = λ are. c.wake.ensures.numbers (c.loop-ticket.invariant.numbers are)

pub returns-in_err-wake-clause-kept : goal.returns-in_err-wake-clause-kept
returns-in_err-wake-clause-kept g c = λ n there. c.wake.ensures.kept n (c.loop-ticket.invariant.kept n there)
