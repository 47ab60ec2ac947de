use Rattle.std.proofs.Common.{◌≡◌, map, take}
use Rattle.sdl_report.specs.ShortName.{signal_short}
use Rattle.sdl_report.proofs.short_names.signal_names.Given as goal

abbrev pub invariant-loop-signal : goal.invariant-loop-signal
invariant-loop-signal l = l.names.items ≡ map signal_short (take l.signal-index l.signals)
