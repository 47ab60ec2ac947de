use Rattle.std.proofs.Common.{not, sym}
use Rattle.port_model.specs.Timers.{is_set, same_key}
use Rattle.port_model.proofs.Lists.{none_tested}
use Rattle.port_model.proofs.timers.Timers.set.Goals as goal

pub returns-clause-waited : goal.returns-clause-waited
returns-clause-waited c =
    none_tested (λ timer. same_key timer.key c.args.key) (λ timer. not (is_set timer.phase)) c.args.self.now.timers (sym c.if-active.ensures)
