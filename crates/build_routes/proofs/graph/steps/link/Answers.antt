use Rattle.std.proofs.Common.{◌≡◌, Some, OnOk, sym, subst}
use Rattle.build_routes.specs.Nodes.{number}
use Rattle.build_routes.specs.Graph.{Adds}
use Rattle.build_routes.specs.Rows.{rows_of}
use Rattle.build_routes.specs.Steps.{Link}
use Rattle.build_routes.proofs.graph.steps.link.Goals as goal

pub returns-in-Some-to : goal.returns-in-Some-to
returns-in-Some-to c =
    let old = rows_of c.args.graph.now in
    let new = rows_of c.add.new.self in
    subst (λ f. OnOk c.add.result (Adds (Link f c.args.to c.args.only) old new)) (sym c.in-Some.is)
    (subst (λ t. OnOk c.add.result (Adds (Link (Some c.in-Some.before) t c.args.only) old new)) (sym c.in-Some-to.is)
    (subst (λ x. OnOk c.add.result (Adds (λ n step. (n ≡ x) × (step ≡ record { to = number c.in-Some-to.after; only = c.args.only })) old new)) c.number-begin.ensures
    (subst (λ y. OnOk c.add.result (Adds (λ n step. (n ≡ c.number-begin.result) × (step ≡ record { to = y; only = c.args.only })) old new)) c.number-end.ensures c.add.ensures)))
