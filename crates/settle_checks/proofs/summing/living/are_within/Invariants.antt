use Rattle.std.proofs.Common.{◌<◌, ℕ, get_or}
use Rattle.sdl_system.specs.declared.process.Process.{Process}
use Rattle.settle_meaning.specs.Starts.{IsWithin}
use Rattle.settle_checks.proofs.summing.living.are_within.Given as goal

abbrev pub invariant-loop-number : goal.invariant-loop-number
invariant-loop-number l =
    (k : ℕ) (d : Process) → k < l.number → IsWithin l.records k (get_or l.processes k d)
