use Rattle.std.proofs.Common.{◌∙◌, ap, option_map}
use Rattle.sdl_tree.specs.Views.{fpar_value}
use Rattle.build_limits.specs.Counted.{past_limit}
use Rattle.build_names.specs.Faults.{least_of, limit_at}
use Rattle.build_limits.specs.Limits.{parameter_names}
use Rattle.build_limits.proofs.CountLemmas.{past_limit-counted}
use Rattle.build_limits.proofs.limits.note_parameters.Goals as goal

pub returns : goal.returns
returns c =
    c.note.ensures
    ∙ ap (λ past. least_of c.args.faults.now (limit_at past)) (ap past_limit c.parameters.ensures
    ∙ past_limit-counted 16 (parameter_names (option_map fpar_value c.args.parameters.now)))
