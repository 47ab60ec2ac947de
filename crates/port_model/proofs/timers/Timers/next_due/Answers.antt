use Rattle.std.proofs.Common.{None, Some, subst}
use Rattle.port_model.specs.Table.{TimersValue}
use Rattle.port_model.specs.Timers.{due_times, IsLeast}
use Rattle.port_model.proofs.Table.{least_none, least_first}
use Rattle.port_model.proofs.timers.Timers.next_due.Goals as goal

pub returns-in-None : goal.returns-in-None
returns-in-None c =
    subst (λ (t : TimersValue). IsLeast (due_times t.timers) None) c.self.view_is
    (least_none c.self.inside.table.entries c.self.inside.deadlines.keys c.self.invariant c.in-None.ensures.variant.1)

pub returns-in-Some : goal.returns-in-Some
returns-in-Some c =
    subst (λ (t : TimersValue). IsLeast (due_times t.timers) (Some c.in-Some.deadline.now.due)) c.self.view_is
    (least_first c.self.inside.table.entries c.self.inside.deadlines.keys c.self.invariant c.in-Some.deadline.now c.in-Some.ensures.member c.in-Some.ensures.all_from)
