-- Who has no creator lives from the start on.
use Rattle.std.proofs.Common.{◌==◌, ◌∙◌, ℕ, ap, true, if◌then◌else◌}
use Rattle.std.proofs.lemmas.Result.{on_ok_weaker}
use Rattle.view_timeline.proofs.Starting.{admits-null, admits-other}
use Rattle.view_timeline.specs.Traffic.{ledger_of}
use Rattle.view_timeline.proofs.admitting.admit.Goals as goal

pub returns-in-Null-clause-living : goal.returns-in-Null-clause-living
returns-in-Null-clause-living c =
    let of = c.args.of.now in
    let old = ledger_of c.args.traffic.now in
    let new = ledger_of c.begin.new.self in
    on_ok_weaker c.begin.result
    (λ living n. admits-null of.pid n of.parent (old.living n) (new.living n) c.in-Null.ensures
    (living n ∙ ap (λ (number : ℕ). if number == n then true else old.living n) c.pid.ensures))
    c.begin.ensures.living

pub returns-in_default-clause-living : goal.returns-in_default-clause-living
returns-in_default-clause-living c = λ n.
    let of = c.args.of.now in
    admits-other of.pid n of.parent ((ledger_of c.args.traffic.now).living n)
    (λ null. c.in_default.not-Null (c.parent.ensures ∙ null))

pub returns-in-Null-clause-begun : goal.returns-in-Null-clause-begun
returns-in-Null-clause-begun c =
    let of = c.args.of.now in
    let old = ledger_of c.args.traffic.now in
    let new = ledger_of c.begin.new.self in
    on_ok_weaker c.begin.result
    (λ begun n. admits-null of.pid n of.parent (old.begun n) (new.begun n) c.in-Null.ensures
    (begun n ∙ ap (λ (number : ℕ). if number == n then true else old.begun n) c.pid.ensures))
    c.begin.ensures.begun

pub returns-in_default-clause-begun : goal.returns-in_default-clause-begun
returns-in_default-clause-begun c = λ n.
    let of = c.args.of.now in
    admits-other of.pid n of.parent ((ledger_of c.args.traffic.now).begun n)
    (λ null. c.in_default.not-Null (c.parent.ensures ∙ null))
