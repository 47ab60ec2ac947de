use Rattle.std.proofs.Common.{arith}
use Rattle.build_routes.proofs.KnownLemmas.{numbers_more}
use Rattle.build_routes.proofs.TableLemmas.{keeps_on}
use Rattle.build_routes.proofs.known.numbered.Goals as goal

pub loop-place-preserved : goal.loop-place-preserved
loop-place-preserved c = record {
  kept = keeps_on c.args.lists.now c.loop-place.lists c.add.new.self c.loop-place.invariant.kept c.in_ok-add.ensures.kept;
  size = omega (arith, c.in_ok-push.ensures.len, c.loop-place.invariant.size);
  each = numbers_more c.loop-place.lists c.add.new.self c.args.receivers.now c.loop-place.numbers.items c.push.new.self.items c.loop-place.place c.in_ok-add.field-0
      c.in_ok-list.list.items c.in_ok-add.ensures.kept c.loop-place.invariant.size c.loop-place.invariant.each c.in_ok-add.ensures.stands c.in_ok-list.ensures
      c.in_ok-push.ensures.items;
}
