use Rattle.std.proofs.Common.{List, ap, append_assoc, map, ◌++◌, ◌∙◌}
use Rattle.sdl_tree.specs.Views.{tree_value}
use Rattle.sdl_warnings.specs.Defined.{defined, known}
use Rattle.sdl_warnings.specs.Found.{oddities, warning_of}
use Rattle.sdl_warnings.specs.Heads.{head_value}
use Rattle.sdl_warnings.specs.Processes.{of_processes}
use Rattle.sdl_warnings.specs.Unused.{unused}
use Rattle.sdl_warnings.specs.declared.suspicion.Warning.{Warning}
use Rattle.sdl_warnings.proofs.found.gathered.Goals as goal

pub returns : goal.returns
returns c =
    let words = c.args.words.now in
    let others = oddities (tree_value c.args.tree.now) words in
    let named = unused words (defined (tree_value c.args.tree.now)) in
    let first = c.in_ok-add_unused.ensures
    ∙ ap (λ (l : List Warning). l ++ unused words (known c.in_ok-names.names)) c.new-found.ensures.items
    ∙ ap (unused words) c.in_ok-names.ensures in
    let constants = ap (map head_value) c.deref.ensures.value ∙ c.in_ok-constants.ensures in
    let second = c.in_ok-add_processes.ensures
    ∙ (λ i. first i ++ of_processes (constants i) words) in
    let third = c.deref-2.ensures.value ∙ c.in_ok-oddities.ensures in
    c.in_ok-add_oddities.ensures
    ∙ (λ i. second i ++ map warning_of (third i))
    ∙ append_assoc named _ (map warning_of others)
