use Rattle.std.proofs.Common.{◌∷◌, refl}
use Rattle.std.proofs.lemmas.Result.{on_ok_weaker}
use Rattle.serial_run.proofs.Timing.{expire_reaches}
use Rattle.serial_sweeps.specs.Sweeps.{at_agenda}
use Rattle.serial_run.proofs.stepping.SteppingInstanceSet.expire.Goals as goal

pub returns-clause-runs : goal.returns-clause-runs
returns-clause-runs g c = λ last m some begun.
    let agenda = c.args.agenda.now in
    let fuse = c.args.fuse in
    on_ok_weaker c.fire.result
    (λ now. expire_reaches (record (at_agenda m agenda) { fuses = fuse ∷ agenda.fuses }) (at_agenda m c.fire.new.agenda)
    c.args.self.now.instances c.fire.new.self fuse agenda.fuses refl begun c.requires.due now refl some
    c.fire.ensures.system last c.args.self.now.order)
    (c.fire.ensures.state m)
