use Rattle.std.proofs.Common.{◌≡◌, ◌++◌, ◌-◌, drop, length, map}
use Rattle.std.specs.List.{flat_map}
use Rattle.sdl_warnings.specs.Heads.{head_value}
use Rattle.sdl_warnings.specs.Processes.{of_part, of_processes, parts}
use Rattle.sdl_warnings.proofs.found.add_processes.Given as goal

abbrev pub invariant-loop-from : goal.invariant-loop-from
invariant-loop-from l =
    l.found.items ++ flat_map (of_part (map head_value l.constants)) (parts (drop l.from l.words))
    ≡ l.fn.found.items ++ of_processes (map head_value l.constants) l.words

abbrev pub decreases-loop-from : goal.decreases-loop-from
decreases-loop-from l = length l.words - l.from
