use Rattle.std.proofs.Common.{◌∙◌, sym}
use Rattle.run_order.proofs.Weaving.{behind_none, behind_other, behind_popped}
use Rattle.run_order.proofs.outbox.Outbox.drop_inside.Goals as goal

pub returns-in_default : goal.returns-in_default
returns-in_default c = behind_none c.args.self.now c.in_default.ensures

pub returns-then-not-is_inside : goal.returns-then-not-is_inside
returns-then-not-is_inside c =
    behind_other c.args.self.now c.in-Some.first.now c.in-Some.ensures.0 c.in-Some.ensures.1
    (sym c.is_inside.ensures ∙ c.if-not-is_inside.true)

pub returns : goal.returns
returns c =
    behind_popped c.pop.result c.args.self.now c.pop.new.self c.in-Some.first.now c.in-Some.ensures.0 c.pop.ensures
    c.in-Some.ensures.1 (sym c.is_inside.ensures ∙ c.if-not-is_inside.false)
