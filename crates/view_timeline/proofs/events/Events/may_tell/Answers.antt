-- What may not be told is barred.
use Rattle.view_timeline.specs.Events.{untimely}
use Rattle.view_timeline.proofs.events.Events.may_tell.Goals as goal

pub returns-clause-barred : goal.returns-clause-barred
returns-clause-barred c = λ no. untimely (c.is_in_time.ensures.out_of_time c.args.next.now.values.now no)
