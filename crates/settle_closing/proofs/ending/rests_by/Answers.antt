-- The least of the due times tells it.
use Rattle.std.proofs.Common.{refl}
use Rattle.settle_closing.proofs.DueTimes.{after_by, none_after}
use Rattle.settle_closing.proofs.ending.rests_by.Goals as goal

pub returns-in-Some : goal.returns-in-Some
returns-in-Some g c =
    after_by c.args.end c.args.inbox.now.owner.state.timers c.in-Some.due c.lt.result c.in-Some.ensures c.lt.ensures

pub returns-in-None : goal.returns-in-None
returns-in-None g c =
    (λ holds. none_after c.args.end c.args.inbox.now.owner.state.timers c.in-None.ensures, λ all. refl)
