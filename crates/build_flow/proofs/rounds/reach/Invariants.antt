use Rattle.build_flow.specs.Joins.{count_open, joins_in}
use Rattle.build_flow.specs.Listed.{beginnings_listed, texts}
use Rattle.build_flow.specs.Reach.{EachReached}
use Rattle.build_flow.proofs.rounds.reach.Given as goal

abbrev pub invariant-rounds : goal.invariant-rounds
invariant-rounds l = EachReached (beginnings_listed l.beginnings) (texts l.names)

abbrev pub decreases-rounds : goal.decreases-rounds
decreases-rounds l = count_open (joins_in (beginnings_listed l.beginnings)) (texts l.names)
