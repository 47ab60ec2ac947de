use Rattle.std.proofs.Common.{refl}
use Rattle.build_statements.proofs.nodes.decision.decision.Goals as goal

pub returns-in-Some-Some : goal.returns-in-Some-Some
returns-in-Some-Some c =
    let arm = c.in-Some-Some in
    rw (arm.is-0, arm.is-1) (record {
      asked = record { question = arm.question; branches = arm.branches; otherwise = c.args.otherwise };
      is = refl;
      asks = refl;
      branched = refl;
      other = refl;
    })
