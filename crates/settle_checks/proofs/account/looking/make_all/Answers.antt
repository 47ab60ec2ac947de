use Rattle.std.proofs.Common.{◌≡◌, ◌∙◌, length, rules, sym}
use Rattle.std.proofs.Crossing.{crosses}
use denote.Param.Send.{sendable}
use Rattle.settle_checks.proofs.AccountLists.{same_each}
use Rattle.settle_checks.proofs.account.looking.make_all.Goals as goal

pub for_each_mut-requires-sync-F : goal.for_each_mut-requires-sync-F
for_each_mut-requires-sync-F g c κs within = search (sendable, crosses) depth 20

pub returns : goal.returns
returns g c =
    let same : length c.for_each_mut.new.s ≡ length c.args.looks.now = search rules in
    same_each c.args.looks.now c.for_each_mut.new.s same
    (λ i d here.
    let change = (c.for_each_mut.ensures i d here).1 in
    sym change.left ∙ change.call ∙ change.argument_is)
