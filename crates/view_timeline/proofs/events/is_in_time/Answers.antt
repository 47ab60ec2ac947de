-- What isn't in time begins earlier.
use Rattle.std.proofs.Common.{arith, leb-false, sym}
use Rattle.view_timeline.specs.Events.{earlier}
use Rattle.view_timeline.proofs.events.is_in_time.Goals as goal

pub returns-in-Some-clause-out_of_time : goal.returns-in-Some-clause-out_of_time
returns-in-Some-clause-out_of_time c = λ values no.
    let less = leb-false c.get.result c.get-in-Some.result no in
    earlier c.in-Some.at (sym (c.in-Some.ensures values)) (omega (arith, less, c.get.ensures, c.get-in-Some.ensures))
