-- All before are told.
use Rattle.std.proofs.Common.{◌≡◌, drop}
use Rattle.view_run.specs.Finder.{first_left}
use Rattle.view_run.proofs.replay.finder.Finder.first_left.Given as goal

abbrev pub invariant-loop-trace : goal.invariant-loop-trace
invariant-loop-trace l =
    first_left l.self.tracks.records l.trace-items ≡ first_left l.self.tracks.records (drop l.trace-index l.trace-items)
