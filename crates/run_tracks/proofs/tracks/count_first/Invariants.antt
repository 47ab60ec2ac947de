use Rattle.std.proofs.Common.{◌≡◌, ◌-◌, ◌^◌, count_by, min, take}
use Rattle.run_tracks.proofs.tracks.count_first.Given as goal
use Rattle.run_tracks.specs.Tracks.{is_first}

abbrev pub invariant-loop-trace : goal.invariant-loop-trace
invariant-loop-trace l = l.count ≡ min (count_by is_first (take l.trace-index l.records)) (2 ^ 32 - 1)
