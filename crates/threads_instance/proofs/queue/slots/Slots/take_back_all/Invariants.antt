use Rattle.std.proofs.Common.{length}
use Rattle.threads_instance.proofs.queue.slots.Slots.take_back_all.Given as goal

abbrev pub decreases-loop-ticket : goal.decreases-loop-ticket
decreases-loop-ticket g l = length l.tickets.items
