use Rattle.std.proofs.Common.{◌≡◌, drop, flat_map, map, option_map, take}
use Rattle.build_names.specs.Faults.{Notes, least_of}
use Rattle.build_expressions.specs.Misused.{expression_faults, links_faults}
use Rattle.build_expressions.specs.Resolved.{argument_of, left_of}
use Rattle.build_expressions.specs.Scope.{scope_of}
use Rattle.build_expressions.specs.Typing.{argument_in, chain_typed}
use Rattle.sdl_tree.specs.Tree.{links_of}
use Rattle.sdl_tree.specs.Views.{expr_value, link_value}
use Rattle.build_expressions.proofs.typing.+resolve.Given as goal

abbrev pub invariant-resolve_chain-loop-link : goal.invariant-resolve_chain-loop-link
invariant-resolve_chain-loop-link l = record {
  typed : chain_typed l.context (scope_of l.scope) (option_map left_of l.left)
      (links_of (map link_value (drop l.link-index l.link-items)))
      ≡ chain_typed l.context (scope_of l.scope) (option_map left_of l.initial.left)
      (links_of (map link_value l.link-items));
  noted : least_of l.faults (links_faults l.context (scope_of l.scope) (option_map left_of l.left)
      (links_of (map link_value (drop l.link-index l.link-items))))
      ≡ least_of l.initial.faults (links_faults l.context (scope_of l.scope) (option_map left_of l.initial.left)
      (links_of (map link_value l.link-items)));
}

abbrev pub invariant-resolve_each-loop-value : goal.invariant-resolve_each-loop-value
invariant-resolve_each-loop-value l = record {
  arguments : map argument_of l.arguments.items
      ≡ map (argument_in l.context (scope_of l.scope)) (map expr_value (take l.value-index l.values));
  noted : Notes l.initial.faults l.faults
      (flat_map (expression_faults l.context (scope_of l.scope)) (map expr_value (take l.value-index l.values)));
}
