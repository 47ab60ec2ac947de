-- The summaries tell it.
use Rattle.std.proofs.Common.{◌∙◌, sym}
use Rattle.settle_checks.proofs.CauseLemmas.{memory_is}
use Rattle.settle_checks.proofs.summing.nulls.some_memory.Goals as goal

pub returns : goal.returns
returns c = c.any_lacks_memory.ensures ∙ sym (memory_is c.args.records.now c.args.sums.now c.requires)
