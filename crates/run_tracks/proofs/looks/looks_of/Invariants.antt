use Rattle.std.proofs.Common.{◌≡◌, ◌++◌, None}
use Rattle.run_tracks.proofs.looks.looks_of.Given as goal
use Rattle.run_tracks.specs.Looks.{found_in, looks_in}

-- the looks that are there, and those of the steps that are left, are all
abbrev pub invariant-loop-told : goal.invariant-loop-told
invariant-loop-told l =
    l.looks.items ++ looks_in l.step (found_in l.process l.looked l.state l.told-iterator) l.counts
    ≡ looks_in 0 (found_in l.process l.looked None l.trace.events) l.drawn
