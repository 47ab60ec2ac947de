use Rattle.std.proofs.Common.{slice_set}
use Rattle.sdl_timers.proofs.Playing.{IsPlaying}
use Rattle.sdl_timers.proofs.tournament.Tournament.set.Given as goal

abbrev pub invariant-loop-node : goal.invariant-loop-node
invariant-loop-node l = IsPlaying l.self-inside.nodes l.node (slice_set l.fn.self l.fn.entrant l.fn.due)

abbrev pub decreases-loop-node : goal.decreases-loop-node
decreases-loop-node l = l.node
