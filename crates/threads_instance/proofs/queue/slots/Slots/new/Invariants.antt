use Rattle.std.proofs.Common.{◌≡◌, vec_len}
use Rattle.threads_instance.specs.Slots.{AreNumbered}
use Rattle.threads_instance.proofs.queue.slots.Slots.new.Given as goal

-- The loop has made the slots of the first numbers.
abbrev pub invariant-loop-slot : goal.invariant-loop-slot
invariant-loop-slot g l = (vec_len l.rows ≡ l.slot) × AreNumbered l.rows.items
