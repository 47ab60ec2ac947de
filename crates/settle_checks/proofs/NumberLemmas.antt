-- Numbers of records that rise, and times and counts of them.
use Rattle.std.proofs.Common.{◌≡◌, ◌∙◌, ◌<◌, ◌≤◌, ◌+◌, ap, arith, drop, get_or, length, subst, sym, take, ℕ, List, [], ◌∷◌, All}
use Rattle.std.proofs.lemmas.List.{at_drop_all}
use Rattle.std.proofs.lemmas.List.Elements.{All-weaker}
use Rattle.std.proofs.lemmas.List.Sums.{sum_by-append}
use Rattle.run_record.specs.Event.{Event}
use Rattle.run_record.specs.Record.{RecordValue}
use Rattle.settle_checks.proofs.Lists.{all_step, front_is, rest_is}
use Rattle.settle_meaning.specs.Closed.{AreBy, IsBy, transitions, transitions_in}
use Rattle.settle_meaning.specs.Identities.{AreRising}

pub rising_more : (records : List RecordValue) (i : ℕ) (trace : RecordValue) (last : ℕ) → i < length records
    → trace ≡ get_or records i trace → last < trace.pid
    → (AreRising last (drop i records) → AreRising 0 records) → AreRising trace.pid (drop (i + 1) records)
    → AreRising 0 records
rising_more records i trace last within is less keeps rest =
    keeps (subst (λ (l : List RecordValue). AreRising last l) (sym (rest_is records i trace within is)) (less, rest))

pub rising_all : (records : List RecordValue) (i last : ℕ) → length records ≤ i
    → (AreRising last (drop i records) → AreRising 0 records) → AreRising 0 records
rising_all records i last past keeps =
    keeps (subst (λ (l : List RecordValue). AreRising last l) (sym (at_drop_all (λ (l : List RecordValue). l) records i past)) tt)

-- one record more is counted
pub transitions_more : (records : List RecordValue) (i : ℕ) (trace : RecordValue) → i < length records
    → trace ≡ get_or records i trace
    → transitions (take (i + 1) records) ≡ transitions (take i records) + transitions_in trace
transitions_more records i trace within is =
    ap transitions (front_is records i trace within is)
    ∙ sum_by-append transitions_in (take i records) (trace ∷ []) ∙ omega arith

-- later times hold of what was before
by_later : (old new : ℕ) → old ≤ new → (trace : RecordValue) → AreBy old trace → AreBy new trace
by_later old new less trace are =
    All-weaker (IsBy old) (IsBy new) (λ (e : Event) is. omega (arith, less, is)) trace.events are

pub records_by_more : (records : List RecordValue) (i : ℕ) (trace : RecordValue) (old own new : ℕ) → i < length records
    → trace ≡ get_or records i trace → old ≤ new → own ≤ new → All (AreBy old) (take i records) → AreBy own trace
    → All (AreBy new) (take (i + 1) records)
records_by_more records i trace old own new within is less least are here =
    all_step (AreBy new) records i trace within is
    (All-weaker (AreBy old) (AreBy new) (by_later old new less) (take i records) are)
    (by_later own new least trace here)
