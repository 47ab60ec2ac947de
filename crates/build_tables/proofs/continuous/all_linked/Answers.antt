use Rattle.std.proofs.Common.{◌∙◌, sym}
use Rattle.build_tables.proofs.ContinuousLemmas.{unlinked-here}
use Rattle.build_tables.proofs.continuous.all_linked.Goals as goal

pub returns-in_default : goal.returns-in_default
returns-in_default c =
    unlinked-here c.args.entries.now c.args.numbered.now c.loop-one.one-index _ c.loop-one-test.true
    (sym c.linked.ensures ∙ c.in_default.is)
