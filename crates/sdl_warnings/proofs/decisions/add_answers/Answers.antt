use Rattle.std.proofs.Common.{arith}
use Rattle.sdl_warnings.proofs.WordLemmas.{answer_more}
use Rattle.sdl_warnings.proofs.decisions.add_answers.Goals as goal

pub loop-at-preserved : goal.loop-at-preserved
loop-at-preserved c = record {
  within = omega arith;
  same = answer_more c.args.answers.now _ c.loop-at.at _ c.loop-at.found.items c.add_answer.new.found.items
      c.loop-at-test.true c.in_ok-add_answer.ensures c.loop-at.invariant.same;
}
