-- Each site keeps its number.
use Rattle.std.proofs.Common.{◌≡◌, ◌∙◌, length, rules, sym}
use Rattle.std.proofs.Crossing.{crosses}
use Rattle.std.proofs.lemmas.List.{same_lists}
use denote.Param.Send.{sendable}
use Rattle.threads_ports.proofs.birth.make_all.Goals as goal

pub for_each_mut-requires-sync-F : goal.for_each_mut-requires-sync-F
for_each_mut-requires-sync-F g c κs within = search (sendable, crosses) depth 20

pub returns : goal.returns
returns g c =
    let same : length c.for_each_mut.new.s ≡ length c.args.sites.now = search rules in
    sym (same_lists c.args.sites.now c.for_each_mut.new.s (sym same)
    (λ i d here.
    let change = (c.for_each_mut.ensures i d here).1 in
    sym (sym change.left ∙ change.call ∙ change.argument_is)))
