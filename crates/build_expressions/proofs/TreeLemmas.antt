-- What the definitions make of the nodes of a tree that keep a list.
use Rattle.std.proofs.Common.{◌≡◌, ◌∙◌, ◌++◌, List, [], ◌∷◌, flat_map, map, refl, ap, sym}
use Rattle.build_expressions.specs.Misused.{expression_faults, values_faults}
use Rattle.build_expressions.specs.Scope.{Scope}
use Rattle.build_expressions.specs.Typing.{argument_in, arguments_in}
use Rattle.build_expressions.specs.declared.context.Context.{Context}
use Rattle.sdl_tree.proofs.ViewLemmas.{chained_value}
use Rattle.sdl_tree.specs.Tree.{Expr, exprs_of, links_of}
use Rattle.sdl_tree.specs.Tree as tree
use Rattle.sdl_tree.specs.Views.{chain_value, expr_value, link_value}
use Rattle.sdl_tree.specs.declared.expressions.Chain.{Chain, out-Chain, roll-out-Chain}

pub chain_tree : (c : Chain) → chain_value c
    ≡ tree.Chain (expr_value (out-Chain c).first) (links_of (map link_value (out-Chain c).rest.items))
chain_tree c = ap chain_value (sym (roll-out-Chain c)) ∙ chained_value (out-Chain c).first (out-Chain c).rest

pub arguments_in-list : (context : Context) (scope : Scope) (values : List Expr) →
    arguments_in context scope (exprs_of values) ≡ map (argument_in context scope) values
arguments_in-list context scope [] = refl
arguments_in-list context scope (value ∷ values) =
    ap (λ rest. argument_in context scope value ∷ rest) (arguments_in-list context scope values)

pub values_faults-list : (context : Context) (scope : Scope) (values : List Expr) →
    values_faults context scope (exprs_of values) ≡ flat_map (expression_faults context scope) values
values_faults-list context scope [] = refl
values_faults-list context scope (value ∷ values) =
    ap (λ rest. expression_faults context scope value ++ rest) (values_faults-list context scope values)
