use Rattle.std.proofs.Common.{◌≡◌, ◌*◌, ◌≤◌, ℕ, true}
use Rattle.serial_sweeps.specs.Marks.{is_marked}
use Rattle.serial_sweeps.proofs.ready_set.first_from.Given as goal

-- none of the numbers from the beginning up to this place is marked
abbrev pub invariant-loop-place : goal.invariant-loop-place
invariant-loop-place l = (n : ℕ) → is_marked l.initial.words n ≡ true → 64 * l.initial.from ≤ n → 64 * l.place ≤ n
