use Rattle.sdl_script.specs.declared.script.ScriptLine.{ScriptLine}
use Rattle.std.proofs.Common.{List}
use Rattle.settle_checks.proofs.CrossedLemmas.{AreSentSoFar}
use Rattle.settle_checks.specs.Crossed.{AreHeardCrossed}
use Rattle.settle_meaning.specs.Puts.{Heard}
use Rattle.settle_checks.proofs.account.ordering.send_all.Given as goal

abbrev pub invariant-loop-k : goal.invariant-loop-k
invariant-loop-k g l =
    (lines : List ScriptLine) (heard : List Heard)
    → AreHeardCrossed lines heard l.records l.places l.initial.sent.items
    → AreSentSoFar lines heard l.records l.places l.k l.sent.items
