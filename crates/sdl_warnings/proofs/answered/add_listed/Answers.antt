use Rattle.std.proofs.Common.{arith, sym, ◌∙◌}
use Rattle.sdl_warnings.proofs.WordLemmas.{begin_within, listed_more}
use Rattle.sdl_warnings.proofs.answered.add_listed.Goals as goal

pub loop-at-preserved : goal.loop-at-preserved
loop-at-preserved c = record {
  begins = begin_within c.loop-at.begin c.loop-at.at _ _ c.loop-at.invariant.begins c.begin_after-begin.ensures;
  within = omega arith;
  same = listed_more c.args.words.now c.loop-at.begin c.loop-at.at _ c.loop-at.invariant.begins c.loop-at.depth _ _
      c.loop-at.found.items c.add_if_ended.new.found.items _ c.loop-at-test.true (sym c.closes.ensures ∙ c.if-closes.false)
      c.depth_after-depth.ensures c.begin_after-begin.ensures c.in_ok-add_if_ended.ensures c.loop-at.invariant.same;
}
