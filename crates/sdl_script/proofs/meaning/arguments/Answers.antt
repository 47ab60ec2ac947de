use Rattle.std.proofs.Common.{sym, arith}
use Rattle.sdl_script.proofs.MeaningLemmas.{arguments_more, not_as_many, bad_argument}
use Rattle.sdl_script.proofs.meaning.arguments.Goals as goal

pub returns-then-spelled-sorts-clause-err : goal.returns-then-spelled-sorts-clause-err
returns-then-spelled-sorts-clause-err c = not_as_many c.args.spelled.now c.args.sorts.now c.if-spelled-sorts.true

pub returns-in_default-clause-err : goal.returns-in_default-clause-err
returns-in_default-clause-err c =
    bad_argument c.args.spelled.now c.args.sorts.now c.loop-index.index c.loop-index-test.true _ _ (sym c.in_default.ensures)

pub loop-index-preserved : goal.loop-index-preserved
loop-index-preserved c =
    rw c.in_ok-push.ensures.ok
    (arguments_more c.args.spelled.now c.args.sorts.now c.loop-index.index c.loop-index.values c.in-Some.value c.loop-index.invariant
    (omega arith) c.loop-index-test.true _ _ (sym c.in-Some.ensures))
