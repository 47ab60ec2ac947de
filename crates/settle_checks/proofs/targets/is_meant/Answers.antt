-- One instance more lives with the others.
use Rattle.std.proofs.Common.{None, refl, slice_set}
use Rattle.settle_checks.proofs.Least.{adds_is}
use Rattle.settle_checks.proofs.Lists.{set_back}
use Rattle.settle_checks.proofs.LivingLemmas.{goes_by, one_more_lives}
use Rattle.settle_checks.proofs.targets.is_meant.Goals as goal

pub returns-clause-meant : goal.returns-clause-meant
returns-clause-meant c = λ is.
    let old = c.args.first.now in
    let process = c.in-Some.process in
    let new = slice_set old process.0 c.least_of.result in
    let routed = c.args.routed in
    goes_by c.args.system.now c.args.records.now new routed.signal routed.from routed.to routed.target
    (one_more_lives c.args.records.now old new process c.in-Instance.number c.in-Some.ensures
    (adds_is old new process c.in-Instance.number c.least_of.result c.if-index-first.false c.least_of.ensures refl)
    c.requires)
    (c.is_routed-meant.ensures is)

pub returns-clause-same : goal.returns-clause-same
returns-clause-same c =
    set_back c.args.first.now c.in-Some.process.0 c.least_of.result None c.if-index-first.false
