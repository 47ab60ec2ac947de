use Rattle.std.proofs.Common.{◌≤◌, ◌+◌, ◌++◌, ◌∙◌, ap, arith, length, subst, sym}
use Rattle.std.specs.Prelude.{filter, List}
use Rattle.std.specs.VecDeque.{deque_capacity}
use Rattle.port_model.specs.declared.got.Got.{Got}
use Rattle.port_model.specs.Backlog.{waiting_in, BacklogValue}
use Rattle.port_model.specs.Passed.{gots_in, holds_signal_of, Standing}
use Rattle.port_model.specs.Timers.{is_signal_of, without_signal}
use Rattle.port_model.proofs.Backlogs.{fewer_left, forgot_passed, forgot_rest, once_in_rest}
use Rattle.port_model.proofs.backlog.Backlog.forget.Goals as goal

pub invariant_of-self : goal.invariant_of-self
invariant_of-self c =
    subst (λ (p : List Standing). length p + length c.self.inside.rest.items ≤ deque_capacity c.self.inside.rest)
    (sym (c.forget.ensures.same c.if-not-forget.true)) c.self.invariant

pub pass_others-requires : goal.pass_others-requires
pass_others-requires c =
    ap (λ (p : List Standing). holds_signal_of c.args.key.now (gots_in p)) (c.forget.ensures.same c.if-not-forget.true)
    ∙ sym c.forget.ensures.reply ∙ c.if-not-forget.true

pub forget-requires-then-not-forget : goal.forget-requires-then-not-forget
forget-requires-then-not-forget c =
    let parts = c.self-then-not-forget.inside in
    let same = ap waiting_in c.self-then-not-forget.view_is ∙ c.pass_others.ensures.same
    ∙ ap (λ (p : List Standing). gots_in p ++ c.self.inside.rest.items) (c.forget.ensures.same c.if-not-forget.true) ∙ ap waiting_in c.self.view_is in
    once_in_rest c.args.key.now (gots_in parts.passed) parts.rest.items
    (subst (λ (w : List Got). length (filter (is_signal_of c.args.key.now) w) ≤ 1) (sym same) c.requires)

pub invariant_of-self-else-not-forget : goal.invariant_of-self-else-not-forget
invariant_of-self-else-not-forget c =
    let fewer = fewer_left c.args.key.now c.self.inside.passed c.forget.new.self c.forget.ensures.left in let fits = c.self.invariant in omega arith

pub returns-then-not-forget : goal.returns-then-not-forget
returns-then-not-forget c =
    let key = c.args.key.now in let parts = c.self-then-not-forget.inside in
    let same = ap waiting_in c.self-then-not-forget.view_is ∙ c.pass_others.ensures.same
    ∙ ap (λ (p : List Standing). gots_in p ++ c.self.inside.rest.items) (c.forget.ensures.same c.if-not-forget.true) ∙ ap waiting_in c.self.view_is in
    forgot_rest key (gots_in parts.passed) parts.rest.items (subst (λ (w : List Got). length (filter (is_signal_of key) w) ≤ 1) (sym same) c.requires)
    (ap (λ (b : BacklogValue). holds_signal_of key b.passed) c.self-then-not-forget.view_is ∙ c.pass_others.ensures.passed) c.forget-then-not-forget.ensures.items
    ∙ ap (without_signal key) same

pub returns-else-not-forget : goal.returns-else-not-forget
returns-else-not-forget c =
    let key = c.args.key.now in let same = ap waiting_in c.self.view_is in
    forgot_passed key (gots_in c.self.inside.passed) c.self.inside.rest.items
    (subst (λ (w : List Got). length (filter (is_signal_of key) w) ≤ 1) (sym same) c.requires) (sym c.forget.ensures.reply ∙ c.if-not-forget.false)
    c.forget.ensures.left ∙ ap (without_signal key) same
