use Rattle.std.proofs.Common.{◌≡◌, ◌+◌, ap, refl, subst, sym}
use Rattle.run_order.proofs.Timing.{due_fuse, lines_now, not_so, nothing_now, nothing_yet}
use Rattle.run_order.proofs.Orders.{order_is}
use Rattle.run_order.proofs.replay.Replay.is_nothing_due.Goals as goal
use Rattle.run_order.specs.OrderState.{OrderState}
use Rattle.serial_order.specs.Execution.{IsNoFuseBefore, IsNoLineBefore}
use Rattle.serial_sweeps.specs.Sweeps.{until_of}

pub returns-then-not-self : goal.returns-then-not-self
returns-then-not-self c = (
  λ yes. nothing_yet c.self.inside.begun c.args.self.now.order c.if-not-self.true
      (subst (λ (g : OrderState). g.until ≡ until_of c.self.inside.begun g.clock) (order_is c.self.view_is) refl),
  λ due. refl,
)

pub returns-then-not-is_no_fuse_by : goal.returns-then-not-is_no_fuse_by
returns-then-not-is_no_fuse_by c =
    let g : OrderState = c.args.self.now.order in
    let clock : c.self.inside.agenda.clock ≡ g.clock = ap (λ (g : OrderState). g.clock) (order_is c.self.view_is) in (
      λ yes. let no : ⊥ = cc in absurd no,
      λ due. absurd (due_fuse c.self.inside.begun g c.if-not-self.false
          (subst (λ (g : OrderState). g.until ≡ until_of c.self.inside.begun g.clock) (order_is c.self.view_is) refl)
          (λ all. not_so c.is_no_fuse_by.result c.if-not-is_no_fuse_by.true c.is_no_fuse_by.ensures.1
          (subst (λ time. IsNoFuseBefore (time + 1) g.fuses) (sym clock) all)) due),
    )

pub returns : goal.returns
returns c =
    let g : OrderState = c.args.self.now.order in
    let clock : c.self.inside.agenda.clock ≡ g.clock = ap (λ (g : OrderState). g.clock) (order_is c.self.view_is) in
    let until : g.until ≡ until_of c.self.inside.begun g.clock =
    subst (λ (g : OrderState). g.until ≡ until_of c.self.inside.begun g.clock) (order_is c.self.view_is) refl in (
      λ yes. nothing_now c.self.inside.begun g c.if-not-self.false until
          (subst (λ time. IsNoFuseBefore (time + 1) g.fuses) clock
          (c.is_no_fuse_by.ensures.0 c.if-not-is_no_fuse_by.false))
          (subst (λ time. IsNoLineBefore (time + 1) g.script) clock (c.is_no_line_by.ensures.0 yes)),
      λ due. c.is_no_line_by.ensures.1
          (subst (λ time. IsNoLineBefore (time + 1) g.script) (sym clock)
          (lines_now c.self.inside.begun g c.if-not-self.false until due)),
    )
