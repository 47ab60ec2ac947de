use Rattle.run_record.proofs.PackedLemmas.{IsPacked-new}
use Rattle.run_record.proofs.record.Record.new.Goals as goal

pub invariant_of-result : goal.invariant_of-result
invariant_of-result c =
    IsPacked-new c.new-entries.result.items c.new-values.result.items c.new-entries.result.cap c.new-values.result.cap
    c.new-entries.ensures.items c.new-values.ensures.items
