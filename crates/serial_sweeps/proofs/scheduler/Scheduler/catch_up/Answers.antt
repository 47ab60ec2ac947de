use Rattle.serial_sweeps.specs.Sweeps.{moment_of}
use Rattle.serial_sweeps.proofs.scheduler.Scheduler.catch_up.Goals as goal

pub returns-clause-runs : goal.returns-clause-runs
returns-clause-runs g c = λ last.
    g.met.A.InstanceSet.goes_on last (moment_of c.args.self.now) (moment_of c.expire_all.new.self)
    (moment_of c.hear_all.new.self) c.args.instances.now c.expire_all.new.instances c.hear_all.new.instances
    (c.in_ok-expire_all.ensures.runs last) (c.in_ok-hear_all.ensures.runs last)
