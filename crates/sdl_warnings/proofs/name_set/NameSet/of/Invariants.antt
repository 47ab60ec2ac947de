use Rattle.std.proofs.Common.{◌≡◌, List, ℕ, map, take}
use Rattle.sdl_warnings.specs.Heads.{head_value}
use Rattle.sdl_warnings.specs.Sets.{among, has}
use Rattle.sdl_warnings.proofs.name_set.NameSet.of.Given as goal

abbrev pub invariant-loop-head : goal.invariant-loop-head
invariant-loop-head l =
    (text : List ℕ) → has l.names text ≡ among (map head_value (take l.head-index l.heads)) text
