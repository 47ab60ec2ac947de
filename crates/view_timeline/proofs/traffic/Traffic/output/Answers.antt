-- What goes to no instance has no link; what goes to one is put.
use Rattle.std.proofs.lemmas.Result.{on_ok_weaker}
use Rattle.view_timeline.proofs.NoteLemmas.{sent-inside, sent-outside}
use Rattle.view_timeline.specs.Traffic.{ledger_of}
use Rattle.view_timeline.proofs.traffic.Traffic.output.Goals as goal

pub returns-in_default-clause-links : goal.returns-in_default-clause-links
returns-in_default-clause-links c = λ named.
    on_ok_weaker c.pass.result
    (sent-outside c.args.own c.args.signal named c.args.values.now c.args.target (ledger_of c.args.self.now)
    (ledger_of c.pass.new.self) c.in_default.not-Instance)
    c.pass.ensures.passed

pub returns-clause-links : goal.returns-clause-links
returns-clause-links c = λ named.
    on_ok_weaker c.put.result
    (sent-inside c.args.own c.in-Instance.receiver c.args.signal named c.args.values.now c.args.target
    (ledger_of c.args.self.now) (ledger_of c.put.new.self) c.in-Instance.is)
    c.put.ensures.put
