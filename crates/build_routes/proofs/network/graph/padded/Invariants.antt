use Rattle.std.proofs.Common.{◌≡◌, ℕ, ◌-◌, get_or}
use Rattle.std.specs.Vec.{vec_len}
use Rattle.build_routes.proofs.network.graph.padded.Given as goal

abbrev pub invariant-loop-padded : goal.invariant-loop-padded
invariant-loop-padded l = (n : ℕ) → get_or l.padded.items n 0 ≡ get_or l.fn.masks.items n 0

abbrev pub decreases-loop-padded : goal.decreases-loop-padded
decreases-loop-padded l = l.size - vec_len l.padded
