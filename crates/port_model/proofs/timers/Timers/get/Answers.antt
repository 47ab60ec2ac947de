use Rattle.port_model.proofs.Table.{has_none, has_timer}
use Rattle.port_model.proofs.timers.Timers.get.Goals as goal

pub returns-in-None : goal.returns-in-None
returns-in-None c =
    let t = has_none c.args.key.now _ c.self.view_is c.in-None.ensures.value in record { active = t.is_active; armed = t.is_armed; waiting = tt }

pub returns-in-Some : goal.returns-in-Some
returns-in-Some c =
    let t = has_timer c.args.key.now c.self.view_is c.self.invariant c.in-Some.ensures.value in
    record { active = t.is_active; armed = t.is_armed; waiting = t.is_waiting }
