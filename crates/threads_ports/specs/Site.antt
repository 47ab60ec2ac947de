-- The sites where the ports of a run are made, and what is made at one, with its owner and its desk.
use Rattle.std.specs.Prelude.{◌≡◌, ℕ, ◌+◌, ◌<◌, List, Option, IfSome, length, slice_index_or}
use Rattle.input_port.specs.declared.birth.NewPort.{NewPort}
use Rattle.input_port.specs.QueueEnds.{newborn}

-- if it is made, its owner has this number and has taken nothing, and its desk is of it
abbrev pub IsPortOf : ℕ → Option NewPort → Type 0
IsPortOf number made =
    IfSome made (λ made. (made.owner ≡ newborn made.port.queue number) × (made.desk.port ≡ made.port.queue))

-- There are 1,000 sites, and the place k has that of the number k + 1.
abbrev pub AreNumbered : List ℕ → Type 0
AreNumbered sites =
    (length sites ≡ 1000) × ((k d : ℕ) → k < length sites → slice_index_or sites k d ≡ k + 1)
