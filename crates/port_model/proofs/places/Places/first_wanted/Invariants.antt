use Rattle.std.proofs.Common.{◌-◌, ◌^◌}
use Rattle.port_model.proofs.PlaceLemmas.{IsFirstBelow}
use Rattle.port_model.proofs.places.Places.first_wanted.Given as goal

abbrev pub invariant-loop-found : goal.invariant-loop-found
invariant-loop-found l = IsFirstBelow l.wanted l.selection l.self l.from l.first

abbrev pub decreases-loop-found : goal.decreases-loop-found
decreases-loop-found l = 2 ^ 32 - l.from
