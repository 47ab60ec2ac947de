-- The latest time, and how many transitions there are.
use Rattle.std.proofs.Common.{◌≡◌, ◌∙◌, ◌⊎◌, ◌<◌, ◌≤◌, ◌+◌, ap, arith, get_or, inl, inr, length, refl, sym, take, ⊎_elim, ℕ, List, [], ◌∷◌, ◌++◌}
use Rattle.std.specs.Prelude.{map, max}
use Rattle.std.specs.List.{sum_by}
use Rattle.std.proofs.lemmas.List.{map_push}
use Rattle.std.proofs.lemmas.List.Sums.{sum_by-cons}
use Rattle.run_record.specs.Event as event
use Rattle.run_record.specs.Event.{Event}
use Rattle.run_record.specs.Record.{RecordValue}
use Rattle.run_semantics.specs.World.{time_after_one}
use Rattle.settle_meaning.specs.Closed.{transitions, transitions_in}
use Rattle.settle_meaning.specs.Times.{AreRisingFrom, greatest, latest, latest_in, time_by}
use Rattle.settle_checks.proofs.SummingLists.{front_is}
use Rattle.settle_checks.specs.Summary.{AreSummaries, IsSummary}
use Rattle.settle_checks.specs.declared.summing.summary.Summary.{Summary}

-- an event has a time, or leaves the one before
pub record HasTime (happened : Event) : Type 0 where
  pub at : ℕ
  pub is : (earlier : ℕ) → time_after_one earlier happened ≡ at

pub timed_or_not : (happened : Event) → HasTime happened ⊎ ((earlier : ℕ) → time_after_one earlier happened ≡ earlier)
timed_or_not (event.Start at) = inl (record { at = at; is = λ earlier. refl })
timed_or_not (event.Consumed at got) = inl (record { at = at; is = λ earlier. refl })
timed_or_not (event.Prior at got) = inl (record { at = at; is = λ earlier. refl })
timed_or_not (event.Discarded at got) = inl (record { at = at; is = λ earlier. refl })
timed_or_not (event.Provided at number) = inl (record { at = at; is = λ earlier. refl })
timed_or_not (event.FailedAt at why) = inl (record { at = at; is = λ earlier. refl })
timed_or_not happened = inr (λ earlier. refl)

abbrev times : List Event → List ℕ
times events = map (time_after_one 0) events

-- the greatest of times that never fall is the last
greatest_from : (earlier : ℕ) (events : List Event) → AreRisingFrom earlier events
    → max earlier (greatest (times events)) ≡ time_by earlier events
greatest_from earlier [] rising = omega arith
greatest_from earlier (e ∷ es) rising =
    ⊎_elim
    (λ (timed : HasTime e).
    let now : time_after_one earlier e ≡ timed.at = timed.is earlier in
    let rest : max (time_after_one earlier e) (greatest (times es)) ≡ time_by (time_after_one earlier e) es =
    greatest_from (time_after_one earlier e) es rising.1 in
    max_timed earlier (time_after_one 0 e) (time_after_one earlier e) (greatest (times es))
    (timed.is 0 ∙ sym now) rising.0 ∙ rest)
    (λ (none : (x : ℕ) → time_after_one x e ≡ x).
    let rest : max (time_after_one earlier e) (greatest (times es)) ≡ time_by (time_after_one earlier e) es =
    greatest_from (time_after_one earlier e) es rising.1 in
    max_none earlier (time_after_one 0 e) (time_after_one earlier e) (greatest (times es)) (none 0) (none earlier)
    ∙ rest)
    (timed_or_not e) where
      max_timed : (low zero_time now rest : ℕ) → zero_time ≡ now → low ≤ now
          → max low (max zero_time rest) ≡ max now rest
      max_timed low zero_time now rest same less = omega (arith, same, less)

      max_none : (low zero_time now rest : ℕ) → zero_time ≡ 0 → now ≡ low → max low (max zero_time rest) ≡ max now rest
      max_none low zero_time now rest none same = omega (arith, none, same)

pub latest_of : (trace : RecordValue) (sum : Summary) → IsSummary trace sum → latest_in trace ≡ sum.course.time
latest_of trace sum is =
    max_zero (latest_in trace) ∙ greatest_from 0 trace.events is.course.rising ∙ sym is.course.time where
      max_zero : (n : ℕ) → n ≡ max 0 n
      max_zero n = omega arith

-- ---- all records

-- the greatest with one time more
greatest_push : (some : List ℕ) (time : ℕ) → greatest (some ++ time ∷ []) ≡ max time (greatest some)
greatest_push [] time = refl
greatest_push (first ∷ rest) time =
    ap (λ n. max first n) (greatest_push rest time) ∙ swapped first time (greatest rest) where
      swapped : (a b c : ℕ) → max a (max b c) ≡ max b (max a c)
      swapped a b c = omega arith

pub latest_more : (sums : List Summary) (i : ℕ) (sum : Summary) (old new : ℕ) → i < length sums
    → sum ≡ get_or sums i sum
    → new ≡ max sum.course.time old → old ≡ greatest (map (λ (s : Summary). s.course.time) (take i sums))
    → new ≡ greatest (map (λ (s : Summary). s.course.time) (take (i + 1) sums))
latest_more sums i sum old new within is new_is old_is =
    new_is
    ∙ ap (λ n. max sum.course.time n) old_is
    ∙ sym (ap (λ (l : List Summary). greatest (map (λ (s : Summary). s.course.time) l)) (front_is sums i sum within is)
    ∙ ap greatest (map_push (λ (s : Summary). s.course.time) (take i sums) sum)
    ∙ greatest_push (map (λ (s : Summary). s.course.time) (take i sums)) sum.course.time)

pub latest_all : (records : List RecordValue) (sums : List Summary) → AreSummaries records sums
    → latest records ≡ greatest (map (λ (sum : Summary). sum.course.time) sums)
latest_all [] [] are = refl
latest_all [] (s ∷ ss) are = absurd are
latest_all (t ∷ ts) [] are = absurd are
latest_all (t ∷ ts) (s ∷ ss) are =
    ap (λ n. max n (latest ts)) (latest_of t s are.0) ∙ ap (λ n. max s.course.time n) (latest_all ts ss are.1)

pub transitions_all : (records : List RecordValue) (sums : List Summary) → AreSummaries records sums
    → transitions records ≡ sum_by (λ (sum : Summary). sum.course.transitions) sums
transitions_all [] [] are = refl
transitions_all [] (s ∷ ss) are = absurd are
transitions_all (t ∷ ts) [] are = absurd are
transitions_all (t ∷ ts) (s ∷ ss) are =
    sum_by-cons transitions_in t ts
    ∙ ap (λ n. n + sum_by transitions_in ts) (sym are.0.course.transitions)
    ∙ ap (λ n. s.course.transitions + n) (transitions_all ts ss are.1)
    ∙ sym (sum_by-cons (λ (sum : Summary). sum.course.transitions) s ss)
