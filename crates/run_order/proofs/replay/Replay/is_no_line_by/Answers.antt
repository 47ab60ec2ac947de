use Rattle.std.proofs.Common.{◌∙◌, ◌+◌, ◌<◌, ◌≤◌, ap, option_copied, refl, rules, subst, sym}
use Rattle.run_order.proofs.Timing.{a_line_by, no_line_at, no_line_left}
use Rattle.run_order.proofs.Orders.{order_is}
use Rattle.run_order.proofs.replay.Replay.is_no_line_by.Goals as goal
use Rattle.run_order.specs.OrderState.{OrderState}
use Rattle.serial_order.specs.Execution.{IsNoLineBefore}

pub returns-in_default : goal.returns-in_default
returns-in_default c = (
  λ yes. subst (λ (g : OrderState). IsNoLineBefore (c.args.last + 1) g.script) (order_is c.self.view_is)
      (no_line_left (c.args.last + 1) c.self.inside.script.now
      (sym c.first.ensures.value ∙ ap option_copied c.in_default.is)),
  λ all. refl,
)

pub returns-then-le : goal.returns-then-le
returns-then-le c =
    let come : c.in-Some.line.now.at ≤ c.args.last = search rules in (
      λ yes. let no : ⊥ = cc in absurd no,
      λ all. absurd (a_line_by c.args.last c.self.inside.script.now c.in-Some.line.now
          (sym c.first.ensures.value ∙ ap option_copied c.in-Some.is) come
          (subst (λ (g : OrderState). IsNoLineBefore (c.args.last + 1) g.script) (sym (order_is c.self.view_is)) all)),
    )

pub returns : goal.returns
returns c =
    let late : c.args.last < c.in-Some.line.now.at = search rules in (
      λ yes. subst (λ (g : OrderState). IsNoLineBefore (c.args.last + 1) g.script) (order_is c.self.view_is)
          (no_line_at c.args.last c.self.inside.script.now c.in-Some.line.now
          (sym c.first.ensures.value ∙ ap option_copied c.in-Some.is) late),
      λ all. refl,
    )
