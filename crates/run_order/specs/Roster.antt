-- Who lives (Z.101: agent instance set).
use Rattle.std.specs.Prelude.{◌≡◌, ◌==◌, ℕ, not, List, [], ◌∷◌, ◌++◌, Option, None, Some, filter, length, map, slice_get, slice_set, unwrap_or}
use Rattle.std.specs.Global.{Vec}
use Rattle.run_semantics.specs.World.{Living}
use Rattle.sdl_interp.specs.Instance.{InstanceValue}
use Rattle.sdl_system.specs.declared.id.ProcessId.{ProcessId}

-- for each process by its number, the numbers of its living instances, in the order of their creates
abbrev pub RosterValue : Type 0
RosterValue = List (List ℕ)

-- the first of them, which is the least, since numbers grow
abbrev pub first_of : List ℕ → Option ℕ
first_of [] = None
first_of (first ∷ rest) = Some first

-- for each process the least number of its living instances and how many live, where so many numbers were given
abbrev pub living_in_all : RosterValue → ℕ → Living
living_in_all roster given = record {
  least = map first_of roster;
  counts = map (λ (numbers : List ℕ). length numbers) roster;
  given = given;
}

abbrev pub numbers_of : RosterValue → ProcessId → List ℕ
numbers_of roster process = unwrap_or (slice_get roster process.0) []

-- an instance of the process lives from now on, or no longer
abbrev pub with_entered : RosterValue → ProcessId → ℕ → RosterValue
with_entered roster process number = slice_set roster process.0 (numbers_of roster process ++ number ∷ [])

abbrev pub with_left : RosterValue → ProcessId → ℕ → RosterValue
with_left roster process number =
    slice_set roster process.0 (filter (λ n. not (n == number)) (numbers_of roster process))

-- all these live, entered in their order
abbrev pub all_entered : RosterValue → List InstanceValue → RosterValue
all_entered roster [] = roster
all_entered roster (i ∷ rest) = all_entered (with_entered roster i.who.process i.who.pid) rest

-- ---- how a roster keeps it

abbrev pub lists_of : List (Vec ℕ) → RosterValue
lists_of lists = map (λ (list : Vec ℕ). list.items) lists

-- for each process the first of its numbers
abbrev pub AreLeast : List (Option ℕ) → RosterValue → Type 0
AreLeast least roster = least ≡ map first_of roster
