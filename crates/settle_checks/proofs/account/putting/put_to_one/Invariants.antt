use Rattle.std.proofs.Common.{◌≡◌, ◌<◌, get_or, length, ℕ, List}
use Rattle.run_record.specs.Record.{RecordValue}
use Rattle.settle_checks.specs.Outputs.{AreNamed, IsEnough}
use Rattle.settle_meaning.specs.Puts.{Heard, IsNamed}
use Rattle.threads_ports.specs.Peers.{put_to}
use Rattle.settle_checks.proofs.account.putting.put_to_one.Given as goal

abbrev pub invariant-loop-to : goal.invariant-loop-to
invariant-loop-to g l =
    (heard : List Heard) → AreNamed heard l.named → (k : ℕ) (d : RecordValue) → k < l.to-index
    → (get_or l.records k d).pid ≡ l.number
    → IsEnough (IsNamed heard) l.from (get_or l.records k d) (length (put_to l.peers (get_or l.records k d).pid))
