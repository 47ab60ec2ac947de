-- The sorts of parameters by their places.
use Rattle.std.specs.Prelude.{ℕ, List, Option, None, Some, slice_get}
use Rattle.sdl_system.specs.declared.sort.Sort.{Sort}

abbrev pub listed_sort : Option (Option Sort) → Option Sort
listed_sort None = None
listed_sort (Some sort) = sort

-- the sort of the parameter at a place; none is known past the last
abbrev pub sort_at : List (Option Sort) → ℕ → Option Sort
sort_at parameters place = listed_sort (slice_get parameters place)
