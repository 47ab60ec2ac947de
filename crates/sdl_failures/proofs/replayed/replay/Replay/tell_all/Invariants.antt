use Rattle.sdl_failures.specs.Replay.{Follows}
use Rattle.sdl_failures.proofs.replayed.replay.Replay.tell_all.Given as goal

abbrev pub invariant-loop-event : goal.invariant-loop-event
invariant-loop-event l = Follows l.initial.self l.self
