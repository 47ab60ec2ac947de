-- How much of what the environment sends is taken, as it is counted.
use Rattle.std.specs.Prelude.{◌≡◌, ℕ, ◌-◌, List, count_by}
use Rattle.std.specs.Option.{option_map_or}
use Rattle.indexmap.specs.IndexMap.{IndexMap, get}
use Rattle.view_text.specs.Lost.{comes_as, same_arrival, takes}
use Rattle.view_text.specs.Sending.{SendingValue}
use Rattle.view_text.specs.Walk.{StepValue}
use Rattle.view_text.specs.declared.arrival.Arrival.{Arrival}
use Rattle.view_text.specs.declared.takes.Takes.{Takes}

-- so much is counted under a name of an instance
abbrev pub counted : {S : Type 0} → IndexMap Arrival ℕ S → Arrival → ℕ
counted counts arrival = option_map_or (λ (count : ℕ). count) (get same_arrival counts arrival) 0

-- so many takes are left once these were sent
abbrev pub left_after : List StepValue → List SendingValue → Arrival → ℕ
left_after steps earlier arrival = takes steps arrival - count_by (comes_as arrival) earlier

abbrev pub AreLeft : List StepValue → List SendingValue → Takes → Type 0
AreLeft steps earlier made = (arrival : Arrival) → counted made.counts arrival ≡ left_after steps earlier arrival
