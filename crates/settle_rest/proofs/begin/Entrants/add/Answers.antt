use Rattle.std.proofs.Common.{arith, inl, refl}
use Rattle.std.proofs.lemmas.Result.{on_ok_weaker}
use Rattle.settle_rest.proofs.ReadyNumbers.{up_to_more}
use Rattle.settle_rest.proofs.begin.Entrants.add.Goals as goal

pub returns-clause-ready : goal.returns-clause-ready
returns-clause-ready c = on_ok_weaker c.wake.result (λ is some. (is c.args.number).1 (inl (some, refl))) c.wake.ensures.ok

pub returns-clause-greatest : goal.returns-clause-greatest
returns-clause-greatest c =
    up_to_more c.args.number c.args.self.now.ready c.wake.new.ready c.wake.result c.args.self.now.greatest c.max-self.result
    (omega arith) (omega arith) c.wake.ensures.ok c.wake.ensures.err
