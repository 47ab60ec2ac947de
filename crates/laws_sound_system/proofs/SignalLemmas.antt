-- The signals and timers of a system are those of the rows, each by its number.
use Rattle.std.proofs.Common.{◌≡◌, ◌∙◌, ◌++◌, ◌+◌, ℕ, ℤ, zero, suc, List, [], ◌∷◌, Option, None, Some, arith, flat_map, length, map, refl, ap, slice_get, sym}
use Rattle.std.proofs.lemmas.List.{append_assoc, length-append}
use Rattle.std.specs.Option.{unwrap_or}
use Rattle.port_model.specs.declared.values.item.SignalId.{SignalId}
use Rattle.sdl_build.specs.Signals.{known_sort, signal_from, signal_of, signals_from, timer_at, timer_of}
use Rattle.sdl_build.specs.Signals as made
use Rattle.laws_complete.specs.Complete.{AreThere}
use Rattle.build_definitions.specs.Rows.{SignalKind, OrdinarySignal, OrdinaryTimer, SignalRow}
use Rattle.build_definitions.specs.Entries.{Entry}
use Rattle.build_definitions.specs.Meanings.{signal_means}
use Rattle.build_definitions.specs.Meanings as names
use Rattle.build_names.specs.FaultLaws.{Each}
use Rattle.build_expressions.specs.Scope.{SignalMeaning}
use Rattle.laws_sound_system.proofs.WalkLemmas.{IsTimed, IsTimedRow, the_process}
use Rattle.laws_sound_runs.specs.Scopes.{IsSoundSignal}
use Rattle.build_names.specs.declared.scopes.scope.ScopeId.{ScopeId}
use Rattle.sdl_system.specs.System.{SystemValue}
use Rattle.sdl_system.specs.declared.signal.Signal.{Signal}
use Rattle.sdl_system.specs.declared.sort.Sort.{Sort}

-- sorts that are there
known-sorts : (sorts : List (Option Sort)) → AreThere sorts → sorts ≡ map Some (flat_map known_sort sorts)
known-sorts [] there = refl
known-sorts (None ∷ sorts) there = absurd there.0
known-sorts (Some sort ∷ sorts) there = ap (λ list. Some sort ∷ list) (known-sorts sorts there.1)

-- the element of a list that gives this one
pub mapped-back : {A B : Type 0} (f : A → B) (xs : List A) (n : ℕ) (y : B) → slice_get (map f xs) n ≡ Some y →
    (x : A) × (slice_get xs n ≡ Some x) × (f x ≡ y)
mapped-back f [] zero y at = absurd (let never : ⊥ = cc in never)
mapped-back f [] (suc n) y at = absurd (let never : ⊥ = cc in never)
mapped-back f (x ∷ xs) zero y at = (x, refl, ap (λ o. unwrap_or o (f x)) at)
mapped-back f (x ∷ xs) (suc n) y at = mapped-back f xs n y at

-- the signal of a row that stands behind these
from-behind : (before rows : List SignalRow) (row : SignalRow) (durations : List (Option ℤ)) (n : ℕ) →
    length durations ≡ length (before ++ row ∷ rows) → n ≡ length before →
    (duration : Option ℤ)
    × (slice_get (signals_from (before ++ row ∷ rows) durations) n ≡ Some (signal_from row duration))
from-behind [] rows row [] n long is = absurd (omega (arith, long))
from-behind [] rows row (duration ∷ durations) n long is =
    (duration, ap (slice_get (signal_from row duration ∷ signals_from rows durations)) is)
from-behind (x ∷ before) rows row [] n long is = absurd (omega (arith, long))
from-behind (x ∷ before) rows row (duration ∷ durations) zero long is = absurd (omega (arith, is))
from-behind (x ∷ before) rows row (duration ∷ durations) (suc n) long is =
    from-behind before rows row durations n (omega (arith, long)) (omega (arith, is))

abbrev the_signal : ℕ → SignalId
the_signal n = record { 0 = n }

module _ (system : SystemValue) (count : ℕ) where
  -- a signal that is the one of a row
  means-sound : (n : ℕ) (place : ScopeId) (sorts : List (Option Sort)) (kind : SignalKind) (duration : Option ℤ)
      (one : Signal) → slice_get system.signals n ≡ Some one → AreThere sorts → IsTimed count place kind →
      one.sorts.items ≡ flat_map known_sort sorts → one.timer ≡ timer_of place kind duration →
      IsSoundSignal system (signal_means n sorts kind)
  means-sound n place sorts OrdinarySignal duration one at there timed sorts_are timer_is =
      (one, at, known-sorts sorts there ∙ ap (map Some) (sym sorts_are), timer_is)
  means-sound n place sorts (OrdinaryTimer default) duration one at there timed sorts_are timer_is = (
    one,
    record { process = the_process timed.0; default = duration },
    at,
    known-sorts sorts there ∙ ap (map Some) (sym sorts_are),
    timer_is ∙ ap (λ scope. timer_at scope duration) timed.1,
  )

  row-sound : (n : ℕ) (row : SignalRow) (duration : Option ℤ) →
      slice_get (map signal_of system.signals) n ≡ Some (signal_from row duration) → AreThere row.sorts →
      IsTimedRow count row → IsSoundSignal system (signal_means n row.sorts row.kind)
  row-sound n row duration at there timed =
      let one = mapped-back signal_of system.signals n (signal_from row duration) at in
      means-sound n row.scope row.sorts row.kind duration one.0 one.1 there timed
      (ap (λ (s : made.Signal). s.sorts) one.2) (ap (λ (s : made.Signal). s.timer) one.2)

  rows-sound : (number : ℕ) (before rows all : List SignalRow) (durations : List (Option ℤ)) → all ≡ before ++ rows →
      number ≡ length before → length durations ≡ length all →
      map signal_of system.signals ≡ signals_from all durations →
      Each (λ (row : SignalRow). AreThere row.sorts) rows → Each (IsTimedRow count) rows →
      Each (λ (one : Entry SignalMeaning). IsSoundSignal system one.what) (names.signals_from number rows)
  rows-sound number before [] all durations is many long are there timed = tt
  rows-sound number before (row ∷ rows) all durations is many long are there timed =
      let found = from-behind before rows row durations number (long ∙ ap length is) many in
      let more = length-append before (row ∷ []) in (
        row-sound number row found.0
            (ap (λ list. slice_get list number) (are ∙ ap (λ list. signals_from list durations) is) ∙ found.1)
            there.0 timed.0,
        rows-sound (number + 1) (before ++ row ∷ []) rows all durations
            (is ∙ sym (append_assoc before (row ∷ []) rows)) (omega (arith, many, more)) long are there.1 timed.1,
      )

-- what the names of signals and timers stand for
pub signals-sound : (system : SystemValue) (count : ℕ) (rows : List SignalRow) (durations : List (Option ℤ)) →
    length durations ≡ length rows → map signal_of system.signals ≡ signals_from rows durations →
    Each (λ (row : SignalRow). AreThere row.sorts) rows → Each (IsTimedRow count) rows →
    Each (λ (one : Entry SignalMeaning). IsSoundSignal system one.what) (names.signals_from 0 rows)
signals-sound system count rows durations long are there timed =
    rows-sound system count 0 [] rows rows durations refl refl long are there timed
