use Rattle.std.proofs.Common.{◌∙◌, ap}
use Rattle.std.proofs.lemmas.Result.{IfOk-weaker}
use Rattle.build_process.specs.Numbered.{numbered}
use Rattle.build_names.specs.Labels.{names_listed}
use Rattle.sdl_build.proofs.context.process_names.labels_in.Goals as goal

pub returns : goal.returns
returns c =
    IfOk-weaker c.label_table.result _ _
    (λ table is. is ∙ ap (λ names. numbered 0 (names_listed names)) c.deref.ensures.value
    ∙ ap (numbered 0) c.in_ok-labels.ensures)
    c.label_table.ensures
