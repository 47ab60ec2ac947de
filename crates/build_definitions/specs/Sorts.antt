-- The names of sorts (Z.104: predefined sorts).
use Rattle.std.specs.Prelude.{ℕ, List, Option, None, Some, codes, flat_map, is_some, not, if◌then◌else◌}
use Rattle.std.specs.Str.{bytes_eq}
use Rattle.build_names.specs.Faults.{Diagnostic, fault_if}
use Rattle.build_names.specs.declared.faults.fault.Rule.TheVariants.{Unknown}
use Rattle.sdl_system.specs.declared.sort.Sort.{Sort}
use Rattle.sdl_system.specs.declared.sort.Sort.TheVariants.{Boolean, Integer, Natural, Pid, Time, Duration}
use Rattle.sdl_tree.specs.Words.{Spot}

-- the sort of this name, if it is a sort's
abbrev pub sort_named : List ℕ → Option Sort
sort_named text =
    if bytes_eq text (codes "Integer") then Some Integer
    else if bytes_eq text (codes "Natural") then Some Natural
    else if bytes_eq text (codes "Boolean") then Some Boolean
    else if bytes_eq text (codes "Pid") then Some Pid
    else if bytes_eq text (codes "PId") then Some Pid
    else if bytes_eq text (codes "Time") then Some Time
    else if bytes_eq text (codes "Duration") then Some Duration
    else None

-- the sort that stands here; None where the name is no sort's
abbrev pub sort_at : Spot → Option Sort
sort_at name = sort_named name.text

-- Unknown at a name that is no sort's
abbrev pub unknown_sort : Spot → List Diagnostic
unknown_sort name = fault_if (not (is_some (sort_at name))) Unknown name

abbrev pub unknown_sorts : List Spot → List Diagnostic
unknown_sorts names = flat_map unknown_sort names
