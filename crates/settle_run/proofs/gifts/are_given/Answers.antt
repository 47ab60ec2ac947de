-- One child more.
use Rattle.std.proofs.Common.{arith}
use Rattle.settle_checks.proofs.AccountLists.{at_more}
use Rattle.settle_run.specs.Gifts.{GetsThese, given_by}
use Rattle.threads_instance.specs.declared.doings.Child.{Child}
use Rattle.settle_run.proofs.gifts.are_given.Goals as goal

pub loop-child-init : goal.loop-child-init
loop-child-init c = λ k d below. let wrong : ⊥ = omega (arith, below) in absurd wrong

pub loop-child-preserved : goal.loop-child-preserved
loop-child-preserved c =
    at_more (λ k (child : Child). GetsThese (given_by c.args.places.now c.args.gifts.now) child) c.args.children.now
    c.loop-child.child-index c.child-item.result c.loop-child-test.true c.child-item.is c.loop-child.invariant
    (c.begins_with.ensures c.if-not-begins_with.false)

pub returns : goal.returns
returns c = λ is_true k d within. c.loop-child.invariant k d (omega (arith, c.loop-child-test.false, within))
