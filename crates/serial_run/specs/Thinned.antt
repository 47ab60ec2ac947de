-- The whole without some fuses that have no effect any more.
use Rattle.std.specs.Prelude.{◌≡◌, Bool, false, List, Option, None, Some}
use Rattle.port_model.specs.declared.inbox.entry.Fuse.{Fuse}
use Rattle.port_model.specs.Port.{is_spent}
use Rattle.sdl_interp.specs.Instance.{InstanceValue}
use Rattle.sdl_timers.specs.DueOrder.{IsInOrder}
use Rattle.sdl_timers.specs.Thinned.{Thins}
use Rattle.serial_order.specs.RunState.{RunState, instance_at}

-- whether no timer of the instance runs by the fuse any more; not so where there is no such instance
abbrev pub is_spent_of : Fuse → Option InstanceValue → Bool
is_spent_of fuse None = false
is_spent_of fuse (Some i) = is_spent i.owner.state fuse.key fuse.arm fuse.due

abbrev pub is_spent_in : List InstanceValue → Fuse → Bool
is_spent_in instances fuse = is_spent_of fuse (instance_at instances fuse.pid)

-- The second state is the first, in which fuses wait in due order, without some fuses by which no timer runs any more.
pub record IsThinned (g h : RunState) : Type 0 where
  pub same : h ≡ record g { fuses = h.fuses }
  pub in_order : IsInOrder g.fuses
  pub thins : Thins (is_spent_in g.instances) g.fuses h.fuses
