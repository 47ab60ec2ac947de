use Rattle.std.proofs.Common.{◌≡◌, drop, filter}
use Rattle.sdl_system.specs.Route.{first_living, is_receiver}
use Rattle.sdl_system.proofs.route.first_living.Given as goal

abbrev pub invariant-loop-process : goal.invariant-loop-process
invariant-loop-process l =
    first_living l.living (filter (is_receiver l.itself l.from) l.list) ≡ first_living l.living (filter (is_receiver l.itself l.from) (drop l.process-index l.list))
