-- What comes from no instance has no link; what one sent is taken.
use Rattle.std.proofs.Common.{None, subst, sym}
use Rattle.view_timeline.proofs.NoteLemmas.{got-inside, got-misses, got-outside}
use Rattle.view_timeline.specs.Traffic.{Links, ledger_of}
use Rattle.view_timeline.proofs.traffic.Traffic.got.Goals as goal

pub returns-in_default-clause-noted : goal.returns-in_default-clause-noted
returns-in_default-clause-noted c = λ _.
    subst (λ message. Links None message (ledger_of c.args.self.now) (ledger_of c.pass.new.self))
    (sym (got-outside c.args.own c.args.got c.args.values.now c.in_default.not-Instance))
    c.in_ok-pass.ensures.passed

pub returns-clause-noted : goal.returns-clause-noted
returns-clause-noted c =
    got-inside c.args.own c.in-Instance.sender c.args.got c.args.values.now (ledger_of c.args.self.now)
    (ledger_of c.take.new.self) c.take.result c.in-Instance.is c.take.ensures.taken

pub returns-clause-missing : goal.returns-clause-missing
returns-clause-missing c =
    got-misses c.args.own c.in-Instance.sender c.args.got c.args.values.now (ledger_of c.args.self.now) c.take.result
    c.in-Instance.is c.take.ensures.missing
