use Rattle.std.proofs.Common.{◌∙◌, ap}
use Rattle.run_record.specs.Event as event
use Rattle.run_record.specs.Packed.{told_at}
use Rattle.run_record.proofs.record.Record.discarded.Goals as goal

pub returns : goal.returns
returns c =
    c.begin.ensures (event.Discarded c.args.at c.args.got.now)
    (ap (told_at c.args.at c.discarded.result) c.values_got-values.ensures ∙ c.discarded.ensures.told c.args.at)
