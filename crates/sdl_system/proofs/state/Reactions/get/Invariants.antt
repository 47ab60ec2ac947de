use Rattle.std.proofs.Common.{◌≡◌, drop}
use Rattle.sdl_system.specs.State.{named_reaction}
use Rattle.sdl_system.proofs.state.Reactions.get.Given as goal

abbrev pub invariant-loop-place : goal.invariant-loop-place
invariant-loop-place l =
    named_reaction l.self-inside.by_signal.entries l.signal ≡ named_reaction (drop l.place l.self-inside.by_signal.entries) l.signal
