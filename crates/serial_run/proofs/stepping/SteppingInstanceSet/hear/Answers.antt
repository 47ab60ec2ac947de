use Rattle.std.proofs.Common.{◌∷◌, refl}
use Rattle.std.proofs.lemmas.Result.{on_ok_weaker}
use Rattle.serial_run.proofs.Timing.{hear_reaches}
use Rattle.serial_run.specs.ExecutionLaws.{notes_word}
use Rattle.serial_sweeps.specs.Sweeps.{at_agenda}
use Rattle.serial_run.proofs.stepping.SteppingInstanceSet.hear.Goals as goal

pub returns-clause-runs : goal.returns-clause-runs
returns-clause-runs g c = λ last m some begun.
    let agenda = c.args.agenda.now in
    let line = c.args.line.now in
    on_ok_weaker c.put_line.result
    (λ now. hear_reaches (record (at_agenda m agenda) { script = line ∷ m.script }) (at_agenda m c.put_line.new.agenda)
    c.args.self.now.instances c.put_line.new.self line m.script refl begun c.requires.due c.requires.no_fuse now refl some
    c.put_line.ensures.system last c.args.self.now.order c.note.new.self
    (notes_word c.args.self.now.order 0 c.note.new.self c.note.ensures))
    (c.put_line.ensures.state m)
