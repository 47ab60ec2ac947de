use Rattle.std.proofs.Common.{◌≡◌, ◌++◌, drop, map}
use Rattle.sdl_warnings.specs.Heads.{head_value}
use Rattle.sdl_warnings.specs.Sets.{has}
use Rattle.sdl_warnings.specs.Signals.{unsettled}
use Rattle.sdl_warnings.proofs.signals.add_unsettled.Given as goal

abbrev pub invariant-loop-head : goal.invariant-loop-head
invariant-loop-head l =
    l.found.items ++ unsettled l.behaviour (has l.there) (has l.settled) (map head_value (drop l.head-index l.names))
    ≡ l.fn.found.items ++ unsettled l.behaviour (has l.there) (has l.settled) (map head_value l.names)
