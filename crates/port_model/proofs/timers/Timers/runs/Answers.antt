use Rattle.std.proofs.Common.{◌∙◌}
use Rattle.port_model.proofs.Table.{has_none, has_timer}
use Rattle.port_model.proofs.timers.Timers.runs.Goals as goal

pub returns-in-None : goal.returns-in-None
returns-in-None c = (has_none c.args.key.now _ c.self.view_is c.in-None.ensures.value).is_running c.args.arm c.args.due

pub returns-in-Some : goal.returns-in-Some
returns-in-Some c =
    c.runs_by.ensures ∙ (has_timer c.args.key.now c.self.view_is c.self.invariant c.in-Some.ensures.value).is_running c.args.arm c.args.due
