-- How a wheel keeps its fuses.
use Rattle.std.specs.Prelude.{◌≡◌, ℕ, ◌+◌, ◌%◌, List, [], ◌∷◌, Option, map, length, All}
use Rattle.std.specs.List.{flat_map}
use Rattle.port_model.specs.declared.inbox.entry.Fuse.{Fuse}
use Rattle.sdl_timers.specs.declared.due.Due.{Due}
use Rattle.sdl_timers.specs.DueOrder.{first_of, with_fuse, IsInOrder}

-- some fuses, armed one after the other
abbrev pub armed : List Fuse → List Fuse → List Fuse
armed waiting [] = waiting
armed waiting (fuse ∷ more) = armed (with_fuse fuse waiting) more

-- the fuses of all slots, in due order
abbrev pub all_fuses : List (List Fuse) → List Fuse
all_fuses slots = armed [] (flat_map (λ slot. slot) slots)

-- each fuse stands in the slot of its time, from the slot `from` on
abbrev pub AreSorted : ℕ → List (List Fuse) → Type 0
AreSorted from [] = Unit {0}
AreSorted from (slot ∷ slots) = All (λ fuse. fuse.due % 256 ≡ from) slot × AreSorted (from + 1) slots

-- There are 256 slots, each fuse stands in the slot of its time, each slot is in due order, and the tournament is among the
-- slots' first fuses.
pub record IsWheel (slots : List (List Fuse)) (entrants : List (Option Due)) : Type 0 where
  pub long : length slots ≡ 256
  pub sorted : AreSorted 0 slots
  pub ordered : All IsInOrder slots
  pub entered : entrants ≡ map first_of slots
