use Rattle.std.proofs.Common.{◌∙◌, ap}
use Rattle.port_model.proofs.Table.{armed_in, has_none, has_timer, removed_table, timers_of}
use Rattle.port_model.proofs.timers.Timers.remove.Goals as goal

pub returns-in-None : goal.returns-in-None
returns-in-None c =
    let t = has_none c.args.key.now _ c.self.view_is c.in-None.ensures.value in let same = c.in-None.ensures.unchanged in
    record { reply = t.is_waiting; timers = ap timers_of same ∙ t.timers; armed = ap armed_in same ∙ t.sets }

pub invariant_of-self-in-Some : goal.invariant_of-self-in-Some
invariant_of-self-in-Some c =
    rw c.in-Some.ensures.entries (removed_table c.args.key.now c.self.view_is c.self.invariant c.in-Some.ensures.value _ c.unschedule.ensures)

pub returns-in-Some : goal.returns-in-Some
returns-in-Some c =
    let t = has_timer c.args.key.now c.self.view_is c.self.invariant c.in-Some.ensures.value in let left = c.in-Some.ensures.entries in
    record { reply = t.is_waiting; timers = ap timers_of left ∙ t.timers; armed = ap armed_in left ∙ t.sets }
