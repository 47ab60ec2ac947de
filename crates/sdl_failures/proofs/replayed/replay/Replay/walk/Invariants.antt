use Rattle.sdl_failures.specs.Replay.{Follows}
use Rattle.sdl_failures.proofs.replayed.replay.Replay.walk.Given as goal

abbrev pub invariant-loop-step : goal.invariant-loop-step
invariant-loop-step l = Follows l.initial.self l.self
