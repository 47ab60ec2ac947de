use Rattle.std.proofs.Common.{All, take}
use Rattle.port_model.specs.Wanted.{IsUnwanted}
use Rattle.port_model.proofs.search.first_wanted.Given as goal

abbrev pub invariant-loop-place : goal.invariant-loop-place
invariant-loop-place l = All (IsUnwanted l.wanted l.selection) (take l.place l.waiting.items)
