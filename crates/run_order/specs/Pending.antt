-- What the steps of an instance have still to do outside of it (Z.102: output, timer, create, stop).
use Rattle.std.specs.Prelude.{List, ◌∷◌, None, Some, map}
use Rattle.run_record.specs.Event as event
use Rattle.run_record.specs.Event.{Event}
use Rattle.run_semantics.specs.Effect.{Deed, Effect, Arm, Create, Send}
use Rattle.run_order.specs.declared.pending.Pending.{Pending}
use Rattle.run_order.specs.declared.pending.Pending.TheVariants as pending

-- An event that is still to be told, with what it does outside: an output sends a signal, a set arms a fuse, a create
-- makes an instance, and one that made none, a stop and a failure do what no effect says.
abbrev pub pending_by : Event → List Effect → Pending
pending_by (event.Output signal to values reached) (Send target item ∷ more) = pending.Send to target item
pending_by (event.Set key due) (Arm fuse ∷ more) = pending.Arm fuse
pending_by (event.Create id (Some made)) (Create process number parent values ∷ more) =
    pending.Create process number parent values
pending_by (event.Create process None) effects = pending.Full process
pending_by event.Stop effects = pending.End
pending_by (event.Failed why) effects = pending.End
pending_by (event.FailedAt at why) effects = pending.End
pending_by happened effects = pending.Inside

abbrev pub pending_of : Deed → Pending
pending_of deed = pending_by deed.event deed.effects

abbrev pub all_pending : List Deed → List Pending
all_pending deeds = map pending_of deeds

-- What begins a step is told with it, and the rest is told later. So is a failure in a state: it is told as the
-- instance ends.
abbrev pub behind_first : List Pending → List Pending
behind_first (pending.Inside ∷ later) = later
behind_first all = all
