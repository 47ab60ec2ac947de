use Rattle.sdl_timers.specs.Thinned.{Thins}
use Rattle.sdl_timers.proofs.wheel.Wheel.thin.Given as goal

-- what the slots so far have lost was spent
abbrev pub invariant-loop-slot : goal.invariant-loop-slot
invariant-loop-slot g l = Thins (g.S.SpentFuses.spent l.known) l.fn.self l.self
