use Rattle.std.proofs.Common.{◌≡◌, ◌<◌, get_or, ℕ}
use Rattle.run_record.specs.Record.{RecordValue}
use Rattle.settle_meaning.specs.Living.{AreMeant}
use Rattle.settle_checks.proofs.account.routing.outputs_right.Given as goal

abbrev pub invariant-loop-k : goal.invariant-loop-k
invariant-loop-k l =
    record {
      same : l.first ≡ l.initial.first;
      right : (k : ℕ) (d : RecordValue) → k < l.k → AreMeant l.system l.records (get_or l.records k d);
    }
