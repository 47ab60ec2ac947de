use Rattle.std.proofs.Common.{◌∙◌}
use Rattle.view_coverage.proofs.NameLemmas.{named-listed}
use Rattle.view_coverage.proofs.goals.part_states.is_named.Goals as goal

pub returns : goal.returns
returns c = c.has_text.ensures ∙ named-listed c.args.names.now c.args.text.now
