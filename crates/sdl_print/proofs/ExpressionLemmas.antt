-- The words of a chain of operands, and of a timer with its values.
use Rattle.std.proofs.Common.{◌≡◌, sym, ap, ◌∙◌, ◌∷◌, map, Vec, Global}
use Rattle.sdl_tree.specs.declared.expressions.Chain.{Chain, out-Chain, roll-out-Chain}
use Rattle.sdl_tree.specs.declared.expressions.Expression.{Expression, Active}
use Rattle.sdl_tree.specs.declared.expressions.Link.{Link}
use Rattle.sdl_tree.specs.declared.mark.Mark.TheVariants as mark
use Rattle.sdl_tree.specs.declared.name.Name.{Name}
use Rattle.sdl_tree.specs.declared.name.Spelling.{Spelling}
use Rattle.sdl_tree.specs.Canonical.{fixed, expr_words, links_words, values_words}
use Rattle.sdl_tree.specs.Erased.{erased_name, erased_expr, erased_exprs, erased_links}
use Rattle.sdl_tree.specs.Tree.{exprs_of, links_of}
use Rattle.sdl_tree.specs.Views.{name_value, expr_value, chain_value, link_value}
use Rattle.sdl_tree.specs.Words.{Words}
use Rattle.sdl_tree.specs.Words as word
use Rattle.sdl_tree.proofs.ViewLemmas.{active_value, chained_value}
use Rattle.std.specs.Prelude.{List}

-- what is written for the links of a chain
abbrev pub rest_words : List Link → Words → Words
rest_words links j = links_words (erased_links (links_of (map link_value links))) j

pub chain_words : (c : Chain) (j : Words) →
    expr_words (erased_expr (chain_value c)) j ≡ expr_words (erased_expr (expr_value (out-Chain c).first)) (rest_words (out-Chain c).rest.items j)
chain_words c j =
    ap (λ d. expr_words (erased_expr (chain_value d)) j) (sym (roll-out-Chain c))
    ∙ ap (λ e. expr_words (erased_expr e) j) (chained_value (out-Chain c).first (out-Chain c).rest)

-- what is written for the values of a timer
abbrev pub timer_words : List Expression → Words → Words
timer_words values j = values_words (erased_exprs (exprs_of (map expr_value values))) j

pub active_words : (spelling : Spelling) (timer : Name) (values : Vec Expression Global) (j : Words) →
    expr_words (erased_expr (expr_value (Active spelling timer values))) j
    ≡ fixed mark.Active ∷ fixed mark.Open ∷ word.Name (erased_name (name_value timer)) ∷ timer_words values.items (fixed mark.Close ∷ j)
active_words spelling timer values j = ap (λ e. expr_words (erased_expr e) j) (active_value spelling timer values)
