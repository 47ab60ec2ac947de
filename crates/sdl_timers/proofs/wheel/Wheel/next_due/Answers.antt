use Rattle.sdl_timers.proofs.Firing.{least_time, no_fuse}
use Rattle.sdl_timers.proofs.wheel.Wheel.next_due.Goals as goal

pub returns-in-Some : goal.returns-in-Some
returns-in-Some c = rw (← c.self.view_is) (least_time _ _ _ c.self.invariant c.in-Some.ensures)

pub returns-in-None : goal.returns-in-None
returns-in-None c = rw (← c.self.view_is, no_fuse _ _ c.self.invariant c.in-None.ensures)
