use Rattle.std.proofs.Common.{◌∙◌, ap}
use Rattle.run_record.specs.Event as event
use Rattle.run_record.specs.Packed.{told_at}
use Rattle.run_record.proofs.record.Record.consumed.Goals as goal

pub returns : goal.returns
returns c =
    c.begin.ensures (event.Consumed c.args.at c.args.got.now)
    (ap (told_at c.args.at c.consumed.result) c.values_got-values.ensures ∙ c.consumed.ensures.told c.args.at)
