use Rattle.std.proofs.Common.{◌<◌, get_or, ℕ}
use Rattle.run_record.specs.Record.{RecordValue}
use Rattle.settle_checks.specs.Account.{AreCountsOf}
use Rattle.settle_run.specs.Parts.{IsSettledPort}
use Rattle.settle_run.proofs.ports.look_at_all.Given as goal

abbrev pub invariant-loop-k : goal.invariant-loop-k
invariant-loop-k g l =
    (places : ℕ) → AreCountsOf places l.records l.counted → (k : ℕ) (d : RecordValue) → k < l.k
    → IsSettledPort (g.K.Fixed.puts (get_or l.records k d).pid) places l.whole l.end (g.K.Fixed.owners k) (get_or l.records k d)
