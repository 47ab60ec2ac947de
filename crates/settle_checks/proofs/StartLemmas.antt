-- Instances start as they are created, by births.
use Rattle.std.proofs.Common.{◌≡◌, ◌∙◌, ◌⊎◌, ◌<◌, ◌+◌, ap, arith, drop, get_or, length, subst, sym, take, ⊎_elim, ℕ, zero, suc, List, [], ◌∷◌, ◌++◌, All, None, Option, Some}
use Rattle.std.specs.Prelude.{Contains}
use Rattle.std.proofs.Math.Seq.{split_at}
use Rattle.std.proofs.lemmas.Bool.{cases_eq, cases_order}
use Rattle.std.proofs.lemmas.List.{get_or_default}
use Rattle.std.proofs.lemmas.List.Elements.{All-contains}
use Rattle.run_record.specs.Event as event
use Rattle.run_record.specs.Event.{Event}
use Rattle.run_record.specs.Record.{RecordValue}
use Rattle.sdl_system.specs.declared.id.ProcessId.{ProcessId}
use Rattle.settle_meaning.specs.Identities.{AreRising}
use Rattle.settle_meaning.specs.Starts.{AreStarted, Creates, IsBornOf, IsStartAt, StartsAt}
use Rattle.settle_meaning.specs.Times.{time_by}
use Rattle.settle_checks.proofs.Zips.{zip_at}
use Rattle.settle_checks.specs.Places.{IsPlaceWith}
use Rattle.settle_checks.specs.Starts.{AreBornBy, IsBornBy, IsStartTime, StartsFirst}
use Rattle.settle_checks.specs.Summary.{AreStartsAt, AreSummaries, HasBirthAfter, IsCreating, IsSummary}
use Rattle.settle_checks.specs.declared.summing.creating.Birth.{Birth}
use Rattle.settle_checks.specs.declared.summing.summary.Summary.{Summary}

-- ---- the time of a start

starts_so : (start : Option ℕ) (events : List Event) (time : ℕ) → AreStartsAt start events → IsStartTime start time
    → All (IsStartAt time) events
starts_so None events time are is = are time
starts_so (Some at) events time are is = subst (λ t. All (IsStartAt t) events) is are

pub starts_at : (trace : RecordValue) (sum : Summary) (time : ℕ) → IsSummary trace sum
    → IsStartTime sum.course.start time → StartsAt time trace
starts_at trace sum time is start = starts_so sum.course.start trace.events time is.course.start start

-- ---- numbers

rising_over : (low : ℕ) (records : List RecordValue) (k : ℕ) (d : RecordValue) → AreRising low records
    → k < length records → low < (get_or records k d).pid
rising_over low [] k d rising within = let wrong : ⊥ = omega (arith, within) in absurd wrong
rising_over low (trace ∷ rest) zero d rising within = rising.0
rising_over low (trace ∷ rest) (suc k) d rising within =
    let more : trace.pid < (get_or rest k d).pid = rising_over trace.pid rest k d rising.1 (omega (arith, within)) in
    omega (arith, rising.0, more)

pub rising_less : (low : ℕ) (records : List RecordValue) (j k : ℕ) (d : RecordValue) → AreRising low records → j < k
    → k < length records → (get_or records j d).pid < (get_or records k d).pid
rising_less low [] j k d rising less within = let wrong : ⊥ = omega (arith, within) in absurd wrong
rising_less low (trace ∷ rest) zero zero d rising less within = let wrong : ⊥ = omega (arith, less) in absurd wrong
rising_less low (trace ∷ rest) zero (suc k) d rising less within =
    rising_over trace.pid rest k d rising.1 (omega (arith, within))
rising_less low (trace ∷ rest) (suc j) zero d rising less within = let wrong : ⊥ = omega (arith, less) in absurd wrong
rising_less low (trace ∷ rest) (suc j) (suc k) d rising less within =
    rising_less trace.pid rest j k d rising.1 (omega (arith, less)) (omega (arith, within))

-- no number is there twice
same_place : (records : List RecordValue) (j k : ℕ) (d : RecordValue) → AreRising 0 records → j < length records
    → k < length records → (get_or records j d).pid ≡ (get_or records k d).pid → j ≡ k
same_place records j k d rising j_within k_within same =
    ⊎_elim (λ (equal : j ≡ k). equal)
    (λ (apart : (j < k) ⊎ (k < j)).
    ⊎_elim
    (λ (less : j < k).
    let wrong : ⊥ = omega (arith, same, rising_less 0 records j k d rising less k_within) in absurd wrong)
    (λ (more : k < j).
    let wrong : ⊥ = omega (arith, same, rising_less 0 records k j d rising more j_within) in absurd wrong)
    apart)
    (cases_order j k)

-- ---- a birth

-- who has it is at this place
pub born_at : (records : List RecordValue) (sums : List Summary) (creator place : ℕ) (birth : Birth) (e : Summary)
    → AreRising 0 records → AreSummaries records sums → IsPlaceWith records birth.number (Some place)
    → creator < birth.number → IsStartTime (get_or sums place e).course.start birth.at → IsBornBy records creator birth
born_at records sums creator place birth e rising are at later start k d within same =
    let here : k ≡ place = same_place records k place d rising within at.0 (same ∙ sym (at.1 d)) in (
      subst (λ n. creator < n) (sym same) later,
      subst (λ n. StartsAt birth.at (get_or records n d)) (sym here)
          (starts_at (get_or records place d) (get_or sums place e) birth.at
          (zip_at IsSummary records sums place d e are at.0) start),
    )

-- ---- all of them

module _ (records : List RecordValue) (creator : RecordValue) (sum : Summary) (is : IsCreating creator.events sum.creating)
    (born : AreBornBy records creator.pid sum.creating.births.items) (child : RecordValue)
    (there : Contains records child) where
  -- what is known of the child, by the birth that tells of its create
  by_birth : (before : List Event) (process : ProcessId)
      → HasBirthAfter before process child.pid sum.creating.births.items
      → (creator.pid < child.pid) × StartsAt (time_by 0 before) child
  by_birth before process has =
      let known : IsBornBy records creator.pid has.birth =
      All-contains (IsBornBy records creator.pid) sum.creating.births.items has.birth born has.among in
      let facts = All-contains
      (λ (c : RecordValue). c.pid ≡ has.birth.number → (creator.pid < c.pid) × StartsAt has.birth.at c) records child
      known there (sym has.tells.number_is) in
      (facts.0, subst (λ t. StartsAt t child) has.tells.at facts.1)

  pub born_of : Creates child.pid creator → IsBornOf creator child
  born_of creates = record {
    later = (by_birth (take creates.1.0 creator.events) creates.0 (is.each (take creates.1.0 creator.events)
        (drop (suc creates.1.0) creator.events) creates.0 child.pid first_split)).0;
    starts = λ before behind process split.
        (by_birth before process (is.each before behind process child.pid split)).1;
  } where
    first_split : creator.events ≡ take creates.1.0 creator.events
        ++ event.Create creates.0 (Some child.pid) ∷ drop (suc creates.1.0) creator.events
    first_split =
        split_at creator.events creates.1.0 (event.Create creates.0 (Some child.pid)) creates.1.1
        ∙ ap (λ (e : Event). take creates.1.0 creator.events ++ e ∷ drop (suc creates.1.0) creator.events) creates.1.2

some_sum : (records : List RecordValue) (sums : List Summary) (k : ℕ) → AreSummaries records sums
    → k < length records → Summary
some_sum [] sums k are within = let wrong : ⊥ = omega (arith, within) in absurd wrong
some_sum (t ∷ ts) [] k are within = absurd are
some_sum (t ∷ ts) (s ∷ ss) k are within = s

-- the children of so many of the first records are born so
abbrev pub AreBornOfFirst : List RecordValue → List Summary → ℕ → Type 0
AreBornOfFirst records sums count =
    (k : ℕ) (d : RecordValue) (e : Summary) → k < count
    → AreBornBy records (get_or records k d).pid (get_or sums k e).creating.births.items

pub born_more : (records : List RecordValue) (sums : List Summary) (count creator : ℕ) (d : RecordValue) (e : Summary)
    → count < length records → count < length sums → creator ≡ (get_or records count d).pid
    → AreBornBy records creator (get_or sums count e).creating.births.items → AreBornOfFirst records sums count
    → AreBornOfFirst records sums (count + 1)
born_more records sums count creator d e within sums_within is here before k c f less =
    ⊎_elim
    (λ (equal : k ≡ count).
    subst (λ n. AreBornBy records (get_or records n c).pid (get_or sums n f).creating.births.items) (sym equal)
    (subst (λ (t : RecordValue). AreBornBy records t.pid (get_or sums count f).creating.births.items)
    (get_or_default records count d c within)
    (subst (λ (s : Summary). AreBornBy records (get_or records count d).pid s.creating.births.items)
    (get_or_default sums count e f sums_within)
    (subst (λ n. AreBornBy records n (get_or sums count e).creating.births.items) is here))))
    (λ (apart : k ≡ count → ⊥). before k c f (grind (arith, less, apart)))
    (cases_eq k count)

pub are_started : (records : List RecordValue) (sums : List Summary) → AreSummaries records sums
    → All StartsFirst records → AreBornOfFirst records sums (length records) → AreStarted records
are_started records sums are firsts born = record {
  first = firsts;
  created = λ k d within j c there_within.
      let e : Summary = some_sum records sums k are within in
      born_of records (get_or records k d) (get_or sums k e) (zip_at IsSummary records sums k d e are within).creating
      (born k d e within) (get_or records j c) (j, there_within, get_or_default records j (get_or records j c) c there_within);
}
