use Rattle.std.proofs.Common.{◌≡◌, ◌++◌, drop, map}
use Rattle.std.specs.List.{flat_map}
use Rattle.sdl_tree.specs.Views.{local_value}
use Rattle.sdl_warnings.specs.Defined.{known, of_local}
use Rattle.sdl_warnings.proofs.defined.Names.add_process.Given as goal

abbrev pub invariant-loop-definition : goal.invariant-loop-definition
invariant-loop-definition l =
    known l.self ++ flat_map of_local (map local_value (drop l.definition-index l.definition-items))
    ≡ known l.fn.self ++ flat_map of_local (map local_value l.definition-items)
