use Rattle.std.proofs.Common.{◌≡◌}
use Rattle.run_record.specs.Told.{event_told}
use Rattle.run_order.proofs.Timing.{not_so}
use Rattle.run_order.proofs.comparing.is_next.Goals as goal

pub returns-in-Some-clause-next : goal.returns-in-Some-clause-next
returns-in-Some-clause-next c = λ is.
    let steps = c.in-Some.ensures.steps in
    let same = c.is_same.ensures.0 is in
    cc

pub returns-in-Some-clause-other : goal.returns-in-Some-clause-other
returns-in-Some-clause-other c = λ is later goes.
    let steps = c.in-Some.ensures.steps in
    let same : event_told c.in-Some.next ≡ event_told c.args.told = cc in
    not_so c.is_same.result is c.is_same.ensures.1 same

pub returns-in-None-clause-other : goal.returns-in-None-clause-other
returns-in-None-clause-other c = λ is later goes.
    let none = c.in-None.ensures.steps.0 in
    cc
