use Rattle.std.proofs.Common.{subst, sym}
use Rattle.build_routes.specs.Mask.{Bit, Lets}
use Rattle.build_routes.proofs.Bits.{and_both, and_left, and_right}
use Rattle.build_routes.proofs.network.graph.let_through.Goals as goal

pub returns-in-Some : goal.returns-in-Some
returns-in-Some c = λ k.
    let from = c.args.from in let mask = c.mask_at.result in (
      λ has. (
        and_left from mask k has,
        subst (λ x. Lets c.args.column.now x k) (sym c.in-Some.is) (subst (λ x. Bit x k) c.mask_at.ensures (and_right from mask k has)),
      ),
      λ both. and_both from mask k both.0
          (subst (λ x. Bit x k) (sym c.mask_at.ensures) (subst (λ x. Lets c.args.column.now x k) c.in-Some.is both.1)),
    )
