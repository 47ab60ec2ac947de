-- The owners of a run's ports, as they are given out one by one (Z.101: input port).
use Rattle.std.specs.Prelude.{◌≡◌, ℕ, ◌-◌, List, [], ◌∷◌, Option, None, slice_index_or, slice_set}
use Rattle.port_model.specs.Ends.{OwnerState}

-- at the place k the owner of the port of the number k + 1, until it is given out
abbrev pub OwnersState : Type 0
OwnersState = List (Option OwnerState)

-- the owner of the port of this number; none, once it was given out
abbrev pub owner_of : OwnersState → ℕ → Option OwnerState
owner_of owners number = slice_index_or owners (number - 1) None

-- once it is given out: there is none of this number, and those of all others stay
abbrev pub without_owner : OwnersState → ℕ → OwnersState
without_owner owners number = slice_set owners (number - 1) None

-- once those of all these numbers are given out, one after the other
abbrev pub without_owners : OwnersState → List ℕ → OwnersState
without_owners owners [] = owners
without_owners owners (number ∷ more) = without_owners (without_owner owners number) more

-- The owner of a number is given out once: after that there is none, whatever is given out later.
abbrev pub AreGivenOnce : Type 0
AreGivenOnce =
    (owners : OwnersState) (number : ℕ) (later : List ℕ)
    → owner_of (without_owners (without_owner owners number) later) number ≡ None
