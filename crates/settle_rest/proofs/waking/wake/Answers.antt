use Rattle.std.proofs.Common.{◌<◌, arith}
use Rattle.std.proofs.lemmas.Result.{on_ok_weaker}
use Rattle.settle_rest.proofs.ReadyNumbers.{numbers_still, still_there, woken}
use Rattle.settle_rest.proofs.waking.wake.Goals as goal

pub returns-clause-ok : goal.returns-clause-ok
returns-clause-ok c =
    let some : 0 < c.args.number = omega arith in
    on_ok_weaker c.wake.result (woken c.args.number c.args.ready.now c.wake.new.self some) c.wake.ensures.ok

pub returns-clause-kept : goal.returns-clause-kept
returns-clause-kept c =
    still_there c.args.number c.args.ready.now c.wake.new.self c.wake.result c.wake.ensures.ok c.wake.ensures.err

pub returns-clause-numbers : goal.returns-clause-numbers
returns-clause-numbers c =
    let some : 0 < c.args.number = omega arith in
    numbers_still c.args.number c.args.ready.now c.wake.new.self c.wake.result some c.wake.ensures.ok c.wake.ensures.err
