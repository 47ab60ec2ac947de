use Rattle.std.proofs.Common.{subst, sym}
use Rattle.std.proofs.lemmas.Result.{on_ok_weaker}
use Rattle.serial_sweeps.specs.Sweeps.{Moment, moment_of, ticked}
use Rattle.serial_sweeps.proofs.scheduler.Scheduler.advance.Goals as goal

pub returns-clause-runs : goal.returns-clause-runs
returns-clause-runs g c = λ last next.
    let m : Moment = moment_of c.args.self.now in
    let t : Moment = ticked m c.args.time c.given-self.result in
    let n : Moment = moment_of c.catch_up.new.self in
    let a = c.args.instances.now in
    let b = c.catch_up.new.instances in
    let tick : g.A.InstanceSet.Reaches last m a t a =
    subst (λ k. g.A.InstanceSet.Reaches last m a (ticked m c.args.time k) a) (sym c.given-self.ensures)
    (g.met.A.InstanceSet.ticks last c.args.time c.args.self.now.agenda.ready m a c.requires.fits c.requires.rest
    (record { some = c.requires.left; nothing_due = c.requires.due; next = next })) in
    on_ok_weaker c.catch_up.result
    (λ (more : g.A.InstanceSet.Reaches last t a n b). g.met.A.InstanceSet.goes_on last m t n a a b tick more) (c.catch_up.ensures.runs last)
