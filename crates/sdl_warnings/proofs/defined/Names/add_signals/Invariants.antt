use Rattle.std.proofs.Common.{◌≡◌, ◌++◌, drop, map}
use Rattle.sdl_tree.specs.Views.{signal_value}
use Rattle.sdl_warnings.specs.Defined.{known, of_signals}
use Rattle.sdl_warnings.proofs.defined.Names.add_signals.Given as goal

abbrev pub invariant-loop-signal : goal.invariant-loop-signal
invariant-loop-signal l =
    known l.self ++ of_signals (map signal_value (drop l.signal-index l.signals))
    ≡ known l.fn.self ++ of_signals (map signal_value l.signals)
