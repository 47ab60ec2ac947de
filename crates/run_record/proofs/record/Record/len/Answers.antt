use Rattle.std.proofs.Common.{◌∙◌, ap, length, sym}
use Rattle.run_record.specs.Record.{RecordValue}
use Rattle.run_record.proofs.record.Record.len.Goals as goal

pub returns : goal.returns
returns c = sym c.self.invariant.len_is ∙ ap (λ (r : RecordValue). length r.events) c.self.view_is
