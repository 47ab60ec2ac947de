use Rattle.std.proofs.Common.{◌∙◌, ap}
use Rattle.sdl_timers.specs.DueOrder.{first_of}
use Rattle.sdl_timers.proofs.Turning.{first_in}
use Rattle.sdl_timers.proofs.slot.Slot.first.Goals as goal

pub returns-in-Some : goal.returns-in-Some
returns-in-Some c = first_in _ _ _ _ c.self.invariant c.in-Some.ensures.first ∙ ap first_of c.self.view_is
