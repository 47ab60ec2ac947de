-- A map tells keys apart as events do.
use Rattle.std.proofs.Common.{◌∙◌, Some, sym}
use Rattle.std.specs.BTreeMap.{Updates}
use Rattle.port_model.specs.Timers.{key_order}
use Rattle.settle_checks.proofs.DueLemmas.{map_with, on_ok}
use Rattle.settle_checks.proofs.summing.dues.Dues.set.Goals as goal

pub returns : goal.returns
returns c =
    let old = c.self.inside.times in
    let new = c.insert.new.self in
    let updates : Updates key_order old new c.args.key (Some c.args.due) =
    on_ok c.insert.result (Updates key_order old new c.args.key (Some c.args.due))
    (sym c.is_err.ensures.value ∙ c.if-is_err.false) c.insert.ensures.updates in
    rw (sym c.self.view_is) (map_with c.args.key (Some c.args.due) old new updates)
