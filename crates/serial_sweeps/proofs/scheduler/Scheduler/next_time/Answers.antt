use Rattle.std.proofs.Common.{◌∙◌, ap, option_copied, rules, sym}
use Rattle.serial_sweeps.proofs.Moments.{first_gone, least_after}
use Rattle.serial_sweeps.proofs.scheduler.Scheduler.next_time.Goals as goal

pub returns-in-Some-due-clause-none : goal.returns-in-Some-due-clause-none
returns-in-Some-due-clause-none c = (
  first_gone c.args.self.now.script.now (sym c.first.ensures.value ∙ ap option_copied c.in_default.is),
  least_after c.in-Some-due.due c.args.last c.args.self.now.agenda.fuses c.in-Some-due.ensures.1 (search rules),
)
