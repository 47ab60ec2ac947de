use Rattle.std.proofs.Common.{◌≡◌, ◌∙◌, ◌≢◌, ◌+◌, [], ap, inl, inr, option_copied, subst, sym}
use Rattle.run_order.proofs.Orders.{order_is, some_first}
use Rattle.run_order.proofs.replay.Replay.is_over.Goals as goal
use Rattle.run_order.specs.Kept.{IsOver}
use Rattle.run_order.specs.OrderState.{OrderState}
use Rattle.serial_order.specs.Execution.{IsNoFuseBefore}
use Rattle.serial_sweeps.proofs.Moments.{first_gone}
use Rattle.run_order.proofs.Timing.{not_so}
use Rattle.run_order.specs.Noted.{IsNotOver}

pub returns-then-not-whole-clause-over : goal.returns-then-not-whole-clause-over
returns-then-not-whole-clause-over c = λ yes ps behaviours.
    subst (λ w. IsOver ps w c.args.self.now.order) (sym c.if-not-whole.true) (c.is_all_told.ensures.0 yes)

pub returns-then-not-whole-clause-rests : goal.returns-then-not-whole-clause-rests
returns-then-not-whole-clause-rests c = λ yes whole.
    let no : ⊥ = cc (whole, c.if-not-whole.true) in
    absurd no

pub returns-clause-over : goal.returns-clause-over
returns-clause-over c = λ yes ps behaviours.
    let g : OrderState = c.args.self.now.order in
    subst (λ w. IsOver ps w g) (sym c.if-not-whole.false) (record {
      rest = c.is_still.ensures.done c.if-not-is_still.false ps behaviours;
      heard = subst (λ (g : OrderState). g.script ≡ []) (order_is c.self.view_is)
          (first_gone c.self.inside.script.now (sym c.first.ensures.value ∙ ap option_copied c.in_default.is));
      no_fuse = subst (λ time. IsNoFuseBefore (time + 1) g.fuses)
          (ap (λ (g : OrderState). g.end) (order_is c.self.view_is))
          (c.is_no_fuse_by.ensures.0 yes);
    })

pub returns-clause-rests : goal.returns-clause-rests
returns-clause-rests c = λ yes whole. c.is_still.ensures.rest c.if-not-is_still.false

-- ---- where it isn't over

pub returns-then-not-whole-clause-none : goal.returns-then-not-whole-clause-none
returns-then-not-whole-clause-none c = λ is.
    subst (λ w. IsNotOver w c.args.self.now.order c.args.self.now.noted) (sym c.if-not-whole.true)
    (not_so c.is_all_told.result is c.is_all_told.ensures.1)

pub returns-then-not-is_still-clause-none : goal.returns-then-not-is_still-clause-none
returns-then-not-is_still-clause-none c = λ is.
    subst (λ w. IsNotOver w c.args.self.now.order c.args.self.now.noted) (sym c.if-not-whole.false)
    (inl (not_so c.is_still.result c.if-not-is_still.true c.is_still.ensures.noted.1))

pub returns-in-Some-clause-none : goal.returns-in-Some-clause-none
returns-in-Some-clause-none c = λ is.
    subst (λ w. IsNotOver w c.args.self.now.order c.args.self.now.noted) (sym c.if-not-whole.false)
    (inr (inl (subst (λ (g : OrderState). g.script ≢ []) (order_is c.self.view_is)
    (some_first c.self.inside.script.now _ (sym c.first.ensures.value ∙ ap option_copied c.in-Some.is)))))

pub returns-clause-none : goal.returns-clause-none
returns-clause-none c = λ is.
    let g : OrderState = c.args.self.now.order in
    subst (λ w. IsNotOver w g c.args.self.now.noted) (sym c.if-not-whole.false)
    (inr (inr (subst (λ time. IsNoFuseBefore (time + 1) g.fuses → ⊥)
    (ap (λ (g : OrderState). g.end) (order_is c.self.view_is))
    (not_so c.is_no_fuse_by.result is c.is_no_fuse_by.ensures.1))))
