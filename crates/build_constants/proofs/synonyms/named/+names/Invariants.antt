use Rattle.std.proofs.Common.{◌≡◌, ◌++◌, drop, map}
use Rattle.build_expressions.specs.Scope.{visible}
use Rattle.build_constants.specs.Named.{named_in_links, named_in_values}
use Rattle.sdl_tree.specs.Tree.{exprs_of, links_of}
use Rattle.sdl_tree.specs.Views.{expr_value, link_value}
use Rattle.build_constants.proofs.synonyms.named.+names.Given as goal

abbrev pub invariant-add_chain-loop-link : goal.invariant-add_chain-loop-link
invariant-add_chain-loop-link l =
    l.numbers.items ++ named_in_links (visible l.values) (links_of (map link_value (drop l.link-index l.link-items)))
    ≡ l.initial.numbers.items ++ named_in_links (visible l.values) (links_of (map link_value l.link-items))

abbrev pub invariant-add_each-loop-expression : goal.invariant-add_each-loop-expression
invariant-add_each-loop-expression l =
    l.numbers.items ++ named_in_values (visible l.values) (exprs_of (map expr_value (drop l.expression-index l.expressions)))
    ≡ l.initial.numbers.items ++ named_in_values (visible l.values) (exprs_of (map expr_value l.expressions))
