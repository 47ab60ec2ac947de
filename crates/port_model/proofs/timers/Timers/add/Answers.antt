use Rattle.std.proofs.Common.{ap, ◌∙◌}
use Rattle.port_model.proofs.Table.{added_lists, added_table, armed_in, timers_of, undone_table}
use Rattle.port_model.proofs.timers.Timers.add.Goals as goal

pub invariant_of-self-in-Err-insert : goal.invariant_of-self-in-Err-insert
invariant_of-self-in-Err-insert c =
    rw c.in-Err-insert.ensures.err (undone_table c.self.view_is _ _ _ c.args.arm c.args.due c.self.invariant c.requires.later
    c.in_default.ensures.updates.0 c.unschedule.ensures)

pub invariant_of-self-in_default-insert : goal.invariant_of-self-in_default-insert
invariant_of-self-in_default-insert c =
    rw c.in_default-insert.ensures.entries (added_table c.args.key _ c.self.view_is c.requires.inactive c.args.arm c.args.due c.requires.later
    _ _ c.self.invariant c.in_default.ensures.updates.0)

pub returns : goal.returns
returns c =
    let lists = added_lists c.args.key _ c.self.view_is c.requires.inactive c.args.arm c.args.due c.requires.later in
    let now = c.in_default-insert.ensures.entries in record { timers = ap timers_of now ∙ lists.0; armed = ap armed_in now ∙ lists.1 }
