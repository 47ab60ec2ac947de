-- What the words of a run say that no thread changes.
use Rattle.std.specs.Prelude.{ℕ, ◌*◌, ◌-◌, ◌/◌, ◌^◌, max, min}
use Rattle.threads_shared.specs.declared.signs.Signs.{Signs}

-- the limit of transitions, and how many workers there are
abbrev pub limit_of : Signs → ℕ
limit_of signs = signs.limit

abbrev pub workers_of : Signs → ℕ
workers_of signs = signs.workers

-- How many transitions a thread makes at most before it adds them to the sum of all: what all of so many workers hold back
-- is a quarter of the limit. It is one at least, and 64 at most. (Their number times four is as a word of 64 bits holds it.)
abbrev pub part_of : ℕ → ℕ → ℕ
part_of limit workers = min (max (limit / min (workers * 4) (2 ^ 64 - 1)) 1) 64
