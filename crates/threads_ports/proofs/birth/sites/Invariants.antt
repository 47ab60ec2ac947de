use Rattle.std.proofs.Common.{◌≡◌, ◌+◌, ◌<◌, ℕ, get_or, length}
use Rattle.threads_ports.proofs.birth.sites.Given as goal

-- The loop has made the sites of the first numbers.
abbrev pub invariant-loop-place : goal.invariant-loop-place
invariant-loop-place l =
    (length l.sites.items ≡ l.place)
    × ((k d : ℕ) → k < length l.sites.items → get_or l.sites.items k d ≡ k + 1)
