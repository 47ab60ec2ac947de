-- The ports of a run, with their desks and owners, by the numbers of the instances (Z.101: input port). The place k has
-- what is of the number k + 1.
use Rattle.std.specs.Prelude.{◌≡◌, ℕ, ◌+◌, ◌-◌, ◌<◌, List, length, Option, slice_index_or}
use Rattle.std.specs.Option.{ForSome}
use Rattle.std.specs.declared.alloc.Global.{Global}
use Rattle.crossbeam_queue.specs.SegTies.{SegId}
use Rattle.port_model.specs.Ends.{OwnerState, no_port}
use Rattle.input_port.specs.QueueEnds.{DeskState, newborn}
use Rattle.input_port.specs.declared.queue.shared.Port.{Port}

-- each port has the name of its number
abbrev pub AreNamed : (ℕ → SegId Global) → List Port → Type 0
AreNamed names ports = (k : ℕ) (d : Port) → k < length ports → (slice_index_or ports k d).queue ≡ names (k + 1)

-- each desk is of the port of its number
abbrev pub HaveDesks : (ℕ → SegId Global) → List DeskState → Type 0
HaveDesks names desks = (k : ℕ) (d : DeskState) → k < length desks → (slice_index_or desks k d).port ≡ names (k + 1)

-- Each owner that is not given out yet is of the port of its number, has that number, and has taken nothing.
abbrev pub HaveOwners : (ℕ → SegId Global) → List (Option OwnerState) → Type 0
HaveOwners names owners = (k : ℕ) (d : Option OwnerState) → k < length owners
    → ForSome (slice_index_or owners k d) (λ owner. owner ≡ newborn (names (k + 1)) (k + 1))

-- the port of a number; of a number that has none, no port
abbrev pub name_of : List Port → ℕ → SegId Global
name_of ports number = (slice_index_or ports (number - 1) (record { queue = no_port; pid = 0 })).queue

-- There are as many desks and owners as ports, and each is of the port at its place.
pub record AreMade (ports : List Port) (desks : List DeskState) (owners : List (Option OwnerState)) : Type 0 where
  pub desks_long : length desks ≡ length ports
  pub owners_long : length owners ≡ length ports
  pub desks_of : HaveDesks (name_of ports) desks
  pub owners_of : HaveOwners (name_of ports) owners
