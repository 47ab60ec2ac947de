use Rattle.std.proofs.Common.{◌+◌, sym}
use Rattle.std.proofs.lemmas.Result.{on_ok_weaker}
use Rattle.serial_run.proofs.Thinning.{created_is}
use Rattle.serial_run.proofs.instances.Instances.create.Goals as goal

pub returns-clause-state : goal.returns-clause-state
returns-clause-state c = λ m.
    on_ok_weaker c.enter.result
    (λ made. created_is m c.args.self.now c.enter.new.self c.args.agenda.now c.enter.new.agenda c.args.id
    (c.args.self.now.living.given + 1) c.args.parent c.args.values.now c.in-Some.process.now c.enter.ensures.system c.enter.ensures.clock
    c.enter.ensures.fuses (sym c.in-Some.ensures) made)
    c.enter.ensures.instances
