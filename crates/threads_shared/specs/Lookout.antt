-- What a worker has seen of the others.
use Rattle.std.specs.Prelude.{ℕ, Bool, ◌==◌, ◌&&◌, List, length, nat_lt, slice_index_or, slice_set}

-- whether this worker had come to its queue so often at the last look, too
abbrev pub is_away : ℕ → ℕ → List ℕ → Bool
is_away worker visits seen = nat_lt worker (length seen) && (slice_index_or seen worker 0 == visits)

-- what was seen, and of this worker this look
abbrev pub with_visits : ℕ → ℕ → List ℕ → List ℕ
with_visits worker visits seen = slice_set seen worker visits
