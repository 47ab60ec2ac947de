use Rattle.std.proofs.Common.{◌∙◌, ap}
use Rattle.sdl_build.proofs.ResolveLemmas.{looked-at-if}
use Rattle.sdl_build.proofs.ProcessLemmas.{not-made}
use Rattle.build_definitions.specs.Parts.{all_sort_faults}
use Rattle.build_definitions.specs.Definitions.{rows_of}
use Rattle.build_names.specs.Faults.{least_of}
use Rattle.build_limits.specs.Limits.{limit_faults}
use Rattle.sdl_tree.specs.Views.{tree_value}
use Rattle.sdl_build.proofs.resolve.resolve.Goals as goal

pub returns : goal.returns
returns c =
    let tree = tree_value c.args.tree.now in
    looked-at-if tree (rows_of c.in_ok-definitions.definitions) _ _ c.look.result
    c.in_ok-definitions.ensures.definitions
    (c.in_ok-definitions.ensures.noted ∙ ap (λ old. least_of old (all_sort_faults tree))
    (c.in_ok-note_limits.ensures ∙ ap (λ old. least_of old (limit_faults tree)) c.requires))
    c.look.ensures

pub returns-in_err-note_limits : goal.returns-in_err-note_limits
returns-in_err-note_limits c = not-made c.from_residual.result _ _ c.from_residual.ensures.1

pub returns-in_err-definitions : goal.returns-in_err-definitions
returns-in_err-definitions c = not-made c.from_residual-in_err-definitions.result _ _
    c.from_residual-in_err-definitions.ensures.1
