-- One line more is read.
use Rattle.std.proofs.Common.{Bool, Global, Vec, ◌+◌, rules, subst, sym, take}
use Rattle.std.proofs.lemmas.List.{take_all}
use Rattle.settle_checks.proofs.NameLemmas.{are_named, lines_more, lines_none}
use Rattle.settle_checks.proofs.names.named.Goals.{in-Some, in_default}
use Rattle.settle_checks.specs.Names.{AreNamedBy}
use Rattle.settle_meaning.specs.Puts.{signals_of}
use Rattle.settle_checks.proofs.names.named.Goals as goal

pub loop-line-preserved : goal.loop-line-preserved
loop-line-preserved c =
    let lines = c.args.lines.now in
    let i = c.loop-line.line-index in
    let line = c.line-item.result in
    elim c.match-line.branch [
      | in-Some w ↦
          subst (λ (v : Vec Bool Global). AreNamedBy (signals_of (take (i + 1) lines)) v.items) (sym w.named-is)
          (lines_more lines i line w.in-Some.signal c.loop-line.named.items w.add_signal.new.named.items
          c.loop-line-test.true c.line-item.is w.in-Some.is w.add_signal.ensures c.loop-line.invariant)
      | in_default w ↦
          subst (λ (v : Vec Bool Global). AreNamedBy (signals_of (take (i + 1) lines)) v.items) (sym w.named-is)
          (lines_none lines i line c.loop-line.named.items c.loop-line-test.true c.line-item.is c.loop-line.invariant)
    ]

pub returns : goal.returns
returns c = λ heard same.
    are_named heard c.args.lines.now c.loop-line.line-index c.loop-line.named.items same
    (take_all c.loop-line.line-index c.args.lines.now (search rules)) c.loop-line.invariant
