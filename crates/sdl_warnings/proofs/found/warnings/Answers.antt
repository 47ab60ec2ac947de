use Rattle.std.proofs.Common.{rules}
use Rattle.std.proofs.lemmas.Fn.{always_returns_same}
use Rattle.sdl_tree.specs.Views.{tree_value}
use Rattle.sdl_warnings.proofs.OrderLemmas.{are_sorted}
use Rattle.sdl_warnings.proofs.found.warnings.Goals as goal
use Rattle.sdl_warnings.specs.declared.suspicion.Warning.{Warning}

pub returns : goal.returns
returns c =
    are_sorted (tree_value c.args.tree.now) c.args.words.now c.in_ok-found.found.items c.sort_by_key.new.self.items
    c.in_ok-found.ensures c.in_ok-sort_by_key.ensures.permutation
    (c.in_ok-sort_by_key.ensures.sorted (λ (warning : Warning). (warning.place.line, warning.place.column))
    (always_returns_same _ _ _ (λ a r q k. search rules)))
