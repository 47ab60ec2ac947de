-- Whether what is taken comes after what is sent, by counts (Z.101: input port).
use Rattle.std.specs.Prelude.{◌≤◌, ℕ, List, [], ◌∷◌, count_by, nat_le}
use Rattle.settle_meaning.specs.Order.{AreNotBefore}

-- no time is less than one before it, nor than `low`
abbrev pub AreTimesFrom : ℕ → List ℕ → Type 0
AreTimesFrom low [] = Unit {0}
AreTimesFrom low (time ∷ rest) = (low ≤ time) × AreTimesFrom time rest

-- how many of the times are not later than this
abbrev pub by_time : ℕ → List ℕ → ℕ
by_time until times = count_by (λ time. nat_le time until) times

-- Of times that never fall: if by no time more was taken than was sent, nothing is taken before it was sent.
abbrev pub CountsKeepOrder : Type 0
CountsKeepOrder =
    (sent taken : List ℕ) → AreTimesFrom 0 sent → AreTimesFrom 0 taken
    → ((until : ℕ) → by_time until taken ≤ by_time until sent) → AreNotBefore sent taken
