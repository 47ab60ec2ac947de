use Rattle.std.proofs.Common.{◌≡◌, map, take}
use Rattle.sdl_report.specs.ShortName.{state_short}
use Rattle.sdl_report.proofs.short_names.state_names.Given as goal

abbrev pub invariant-loop-state : goal.invariant-loop-state
invariant-loop-state l = l.names.items ≡ map state_short (take l.state-index l.states)
