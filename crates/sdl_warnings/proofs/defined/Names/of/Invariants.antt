use Rattle.std.proofs.Common.{◌≡◌, ◌++◌, drop, map}
use Rattle.std.specs.List.{flat_map}
use Rattle.sdl_tree.specs.Views.{system_definition_value, tree_value}
use Rattle.sdl_warnings.specs.Defined.{known, of_system_part, defined}
use Rattle.sdl_warnings.proofs.defined.Names.of.Given as goal

abbrev pub invariant-loop-definition : goal.invariant-loop-definition
invariant-loop-definition l =
    known l.names ++ flat_map of_system_part (map system_definition_value (drop l.definition-index l.definition-items)) ≡ defined (tree_value l.fn.tree)
