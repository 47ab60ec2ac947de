-- The next slot has the next number.
use Rattle.std.proofs.Common.{◌≡◌, ◌∙◌, ap, length, rules}
use Rattle.threads_instance.proofs.Numbering.{numbered_more}
use Rattle.threads_instance.specs.declared.queue.slot.Slot.{Slot}
use Rattle.threads_instance.proofs.queue.slots.Slots.new.Goals as goal

pub loop-slot-preserved : goal.loop-slot-preserved
loop-slot-preserved g c =
    let long : length c.loop-slot.rows.items ≡ c.loop-slot.slot = search rules in
    let number = ap (λ (slot : Slot _). slot.number) c.new-in-loop-slot.ensures ∙ c.new.ensures in (
      search rules,
      numbered_more c.loop-slot.rows.items c.push.new.self.items c.new-in-loop-slot.result c.loop-slot.slot
          long c.loop-slot.invariant.1 number c.in_ok-push.ensures.items,
    )
