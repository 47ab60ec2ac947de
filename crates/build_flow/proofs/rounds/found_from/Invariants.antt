use Rattle.std.proofs.Common.{◌≡◌, take}
use Rattle.build_flow.specs.Listed.{beginnings_listed, found_listed, turns_of}
use Rattle.build_flow.specs.Turns.{found_from}
use Rattle.build_flow.proofs.rounds.found_from.Given as goal

abbrev pub invariant-loop-beginning : goal.invariant-loop-beginning
invariant-loop-beginning l =
    found_listed l.found.items
    ≡ found_from (turns_of l.entries) (beginnings_listed (take l.beginning-index l.beginnings))
