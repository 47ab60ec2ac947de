-- A map tells keys apart as events do.
use Rattle.std.proofs.Common.{None, sym}
use Rattle.settle_checks.proofs.DueLemmas.{map_with}
use Rattle.settle_checks.proofs.summing.dues.Dues.take.Goals as goal

pub returns-clause-after : goal.returns-clause-after
returns-clause-after c =
    rw (sym c.self.view_is)
    (map_with c.args.key.now None c.self.inside.times c.remove.new.self c.remove.ensures.updates)
