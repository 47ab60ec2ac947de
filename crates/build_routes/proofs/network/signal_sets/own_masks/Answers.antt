use Rattle.std.proofs.Common.{ℕ, ◌↔◌, length, refl, subst, arith}
use Rattle.std.proofs.lemmas.Option.{slice_get_read}
use Rattle.build_routes.specs.Each.{ForSome}
use Rattle.build_routes.specs.Mask.{Bit}
use Rattle.build_routes.specs.SignalLists.{IsSignalAt}
use Rattle.build_routes.proofs.ListLemmas.{own_all, own_more}
use Rattle.build_routes.proofs.network.signal_sets.own_masks.Goals as goal

pub loop-list-preserved : goal.loop-list-preserved
loop-list-preserved c =
    let i = c.loop-list.list-index in
    record {
      size = omega (arith, c.in_ok-push.ensures.len, c.loop-list.invariant.size);
      each = own_more c.args.lists.now c.args.word c.loop-list.masks.items c.push.new.self.items i c.list-item.result c.own_mask.result
          c.loop-list.invariant.size
          (slice_get_read c.args.lists.now (length c.args.lists.now) i c.list-item.result refl c.loop-list-test.true c.list-item.is)
          (subst (λ x. (k : ℕ) → Bit c.own_mask.result k ↔ ForSome x (λ j entry. IsSignalAt c.args.word k entry)) c.deref.ensures.value c.own_mask.ensures)
          c.loop-list.invariant.each c.in_ok-push.ensures.items;
    }

pub returns : goal.returns
returns c = own_all c.args.lists.now c.args.word c.loop-list.masks.items c.loop-list.list-index
    c.loop-list.invariant.size c.loop-list-test.false c.loop-list.invariant.each
