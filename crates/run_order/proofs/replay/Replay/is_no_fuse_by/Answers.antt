use Rattle.std.proofs.Common.{◌+◌, ◌<◌, ◌≤◌, None, Some, refl, rules, subst, sym}
use Rattle.run_order.proofs.Timing.{a_fuse_by, no_fuse_by}
use Rattle.run_order.proofs.Orders.{order_is}
use Rattle.run_order.proofs.replay.Replay.is_no_fuse_by.Goals as goal
use Rattle.run_order.specs.OrderState.{OrderState}
use Rattle.serial_order.specs.Execution.{IsNoFuseBefore}

pub returns-in_default : goal.returns-in_default
returns-in_default c = (
  λ yes. subst (λ (g : OrderState). IsNoFuseBefore (c.args.last + 1) g.fuses) (order_is c.self.view_is)
      (no_fuse_by c.args.last c.self.inside.agenda.fuses None c.in_default.ensures tt),
  λ all. refl,
)

pub returns-then-le : goal.returns-then-le
returns-then-le c =
    let come : c.in-Some.due ≤ c.args.last = search rules in (
      λ yes. let no : ⊥ = cc in absurd no,
      λ all. absurd (a_fuse_by c.args.last c.self.inside.agenda.fuses c.in-Some.due c.in-Some.ensures come
          (subst (λ (g : OrderState). IsNoFuseBefore (c.args.last + 1) g.fuses) (sym (order_is c.self.view_is)) all)),
    )

pub returns : goal.returns
returns c =
    let late : c.args.last < c.in-Some.due = search rules in (
      λ yes. subst (λ (g : OrderState). IsNoFuseBefore (c.args.last + 1) g.fuses) (order_is c.self.view_is)
          (no_fuse_by c.args.last c.self.inside.agenda.fuses (Some c.in-Some.due) c.in-Some.ensures late),
      λ all. refl,
    )
