use Rattle.std.proofs.Common.{◌≡◌, ◌++◌, map}
use Rattle.std.specs.Iterator.Adapters.{zip_first, zip_second}
use Rattle.std.specs.Slice.Iter.{iter_rest}
use Rattle.sdl_build.specs.Signals.{signal_of, signals_from}
use Rattle.build_definitions.specs.Seen.{signal_seen}
use Rattle.sdl_build.proofs.signals.signals_of.Given as goal

abbrev pub invariant-loop-entry : goal.invariant-loop-entry
invariant-loop-entry l = signals_from (map signal_seen l.entries) l.durations
    ≡ map signal_of l.signals.items
    ++ signals_from (map signal_seen (iter_rest (zip_first l.entry-iterator)))
    (iter_rest (zip_second l.entry-iterator))
