use Rattle.std.proofs.Common.{◌≡◌, drop}
use Rattle.sdl_failures.specs.Came.{numbered}
use Rattle.sdl_failures.proofs.replayed.begin.numbered.Given as goal

abbrev pub invariant-loop-signal : goal.invariant-loop-signal
invariant-loop-signal l = numbered l.number l.signals ≡ numbered l.number (drop l.signal-index l.signals)
