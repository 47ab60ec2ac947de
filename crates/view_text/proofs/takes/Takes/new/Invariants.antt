use Rattle.std.proofs.Common.{◌≡◌, ◌++◌, List, length}
use Rattle.view_text.specs.Lost.{takes}
use Rattle.view_text.specs.Takes.{counted}
use Rattle.view_text.specs.Walk.{StepValue}
use Rattle.view_text.specs.declared.arrival.Arrival.{Arrival}
use Rattle.view_text.proofs.takes.Takes.new.Given as goal

abbrev pub invariant-loop-step : goal.invariant-loop-step
invariant-loop-step l =
    (passed : List StepValue) × (passed ++ l.walk ≡ l.initial.walk)
    × ((arrival : Arrival) → counted l.made.counts arrival ≡ takes passed arrival)

abbrev pub decreases-loop-step : goal.decreases-loop-step
decreases-loop-step l = length l.walk
