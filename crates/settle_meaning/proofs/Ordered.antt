-- Counts by time keep the order.
use Rattle.std.proofs.Common.{◌≡◌, ◌<◌, ◌≤◌, ◌+◌, ap, arith, cond, le-leb, refl, ⊎_elim, ℕ, Bool, List, [], ◌∷◌}
use Rattle.std.specs.Prelude.{nat_le}
use Rattle.std.proofs.lemmas.Bool.{cases_lt, lt-leb}
use Rattle.std.proofs.lemmas.List.Sums.{sum_by-cons}
use Rattle.settle_meaning.specs.Order.{AreNotBefore}
use Rattle.settle_meaning.specs.OrderLaws.{AreTimesFrom, CountsKeepOrder, by_time}

abbrev one_if : Bool → ℕ
one_if b = cond b 1 0

-- the first time counts, or doesn't
by_cons : (until time : ℕ) (rest : List ℕ) → by_time until (time ∷ rest) ≡ one_if (nat_le time until) + by_time until rest
by_cons until time rest = sum_by-cons (λ t. one_if (nat_le t until)) time rest

counts : (until time : ℕ) → time ≤ until → one_if (nat_le time until) ≡ 1
counts until time less = ap one_if (le-leb time until less)

counts_not : (until time : ℕ) → until < time → one_if (nat_le time until) ≡ 0
counts_not until time less = ap one_if (lt-leb time until less)

-- none of them by an earlier time
none_by : (until low : ℕ) (times : List ℕ) → until < low → AreTimesFrom low times → by_time until times ≡ 0
none_by until low [] less are = refl
none_by until low (time ∷ rest) less are =
    omega (
      arith,
      by_cons until time rest,
      counts_not until time (omega (arith, less, are.0)),
      none_by until time rest (omega (arith, less, are.0)) are.1,
    )

-- what is left when the first of both is gone
fewer_left : (s t : ℕ) (sent taken : List ℕ) → s ≤ t → AreTimesFrom t taken
    → ((until : ℕ) → by_time until (t ∷ taken) ≤ by_time until (s ∷ sent))
    → (until : ℕ) → by_time until taken ≤ by_time until sent
fewer_left s t sent taken less over fewer until =
    ⊎_elim
    (λ (before : until < t).
    let none : by_time until taken ≡ 0 = none_by until t taken before over in omega (arith, none))
    (λ (past : t ≤ until).
    omega (
      arith,
      fewer until,
      by_cons until t taken,
      by_cons until s sent,
      counts until t past,
      counts until s (omega (arith, less, past)),
    ))
    (cases_lt until t)

-- the first that is taken isn't before the first that is sent
first_after : (s t : ℕ) (sent taken : List ℕ) → AreTimesFrom s sent
    → by_time t (t ∷ taken) ≤ by_time t (s ∷ sent) → s ≤ t
first_after s t sent taken from fewer =
    ⊎_elim
    (λ (before : t < s).
    let none : by_time t sent ≡ 0 = none_by t s sent before from in
    let wrong : ⊥ =
    omega (arith, fewer, by_cons t t taken, by_cons t s sent, counts t t (omega arith), counts_not t s before, none) in
    absurd wrong)
    (λ (less : s ≤ t). less)
    (cases_lt t s)

keeps : (low lower : ℕ) (sent taken : List ℕ) → AreTimesFrom low sent → AreTimesFrom lower taken
    → ((until : ℕ) → by_time until taken ≤ by_time until sent) → AreNotBefore sent taken
keeps low lower sent [] from over fewer = tt
keeps low lower [] (t ∷ taken) from over fewer =
    let wrong : ⊥ = omega (arith, fewer t, by_cons t t taken, counts t t (omega arith)) in absurd wrong
keeps low lower (s ∷ sent) (t ∷ taken) from over fewer =
    let less : s ≤ t = first_after s t sent taken from.1 (fewer t) in
    (less, keeps s t sent taken from.1 over.1 (fewer_left s t sent taken less over.1 fewer))

pub counts_keep_order : CountsKeepOrder
counts_keep_order sent taken from over fewer = keeps 0 0 sent taken from over fewer
