use Rattle.std.proofs.Common.{arith}
use Rattle.sdl_warnings.proofs.WordLemmas.{looped}
use Rattle.sdl_warnings.proofs.loops.add_loops.Goals as goal

pub loop-at-preserved : goal.loop-at-preserved
loop-at-preserved c = record {
  within = omega arith;
  same = looped c.args.words.now _ c.loop-at.at _ c.loop-at.found.items c.add_if_loop.new.found.items
      c.loop-at-test.true c.in_ok-add_if_loop.ensures c.loop-at.invariant.same;
}
