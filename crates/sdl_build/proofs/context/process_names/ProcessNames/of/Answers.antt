use Rattle.std.proofs.Common.{◌∙◌, ap}
use Rattle.build_names.specs.Labels.{names_listed}
use Rattle.sdl_build.specs.ProcessScope.{numbered_states}
use Rattle.sdl_build.proofs.context.process_names.ProcessNames.of.Goals as goal

pub returns-clause-states : goal.returns-clause-states
returns-clause-states c =
    c.in_ok-states.ensures ∙ ap (λ names. numbered_states 0 (names_listed names)) c.deref.ensures.value
    ∙ ap (numbered_states 0) c.in_ok-names.ensures
