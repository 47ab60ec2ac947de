-- What the summaries say of the times of all records.
use Rattle.std.proofs.Common.{◌≡◌, ◌∙◌, ◌<◌, ap, arith, get_or, length, refl, subst, sym, ℕ, zero, suc, Bool, true, false, List, [], ◌∷◌, ◌++◌, All}
use Rattle.std.specs.Prelude.{◌||◌}
use Rattle.std.specs.List.{list_any}
use Rattle.std.proofs.lemmas.List.Elements.{All-cons, All-nil}
use Rattle.port_model.specs.declared.got.Got as got
use Rattle.port_model.specs.declared.got.Got.TheVariants as came
use Rattle.run_record.specs.Event as event
use Rattle.run_record.specs.Event.{Event}
use Rattle.run_record.specs.Record.{RecordValue}
use Rattle.settle_checks.specs.Account.{AreTimed}
use Rattle.settle_meaning.specs.Timers.{AreDue, IsDue, IsGotDue}
use Rattle.settle_meaning.specs.Times.{AreRisingFrom}
use Rattle.settle_checks.specs.Flows.{AreFlows, taken_passes}
use Rattle.settle_checks.specs.Summary.{AreSummaries, IsSummary, is_timer, takes_timer}
use Rattle.settle_checks.specs.declared.summing.summary.Summary.{Summary}

abbrev pub Rises : RecordValue → Type 0
Rises trace = AreRisingFrom 0 trace.events

pub all_rise : (records : List RecordValue) (sums : List Summary) → AreSummaries records sums → All Rises records
all_rise [] [] are = All-nil Rises
all_rise [] (s ∷ ss) are = absurd are
all_rise (t ∷ ts) [] are = absurd are
all_rise (t ∷ ts) (s ∷ ss) are = All-cons Rises t ts are.0.course.rising (all_rise ts ss are.1)

-- ---- one of them

pub summary_at : (records : List RecordValue) (sums : List Summary) (k : ℕ) (t : RecordValue) (s : Summary)
    → AreSummaries records sums → k < length records → IsSummary (get_or records k t) (get_or sums k s)
summary_at [] sums k t s are within = let wrong : ⊥ = omega (arith, within) in absurd wrong
summary_at (r ∷ rs) [] k t s are within = absurd are
summary_at (r ∷ rs) (m ∷ ms) zero t s are within = are.0
summary_at (r ∷ rs) (m ∷ ms) (suc k) t s are within = summary_at rs ms k t s are.1 (omega (arith, within))

-- the record and the summary of a place
pub summary_of_both : (records : List RecordValue) (sums : List Summary) (k : ℕ) (trace : RecordValue) (sum : Summary)
    → AreSummaries records sums → k < length records → trace ≡ get_or records k trace → sum ≡ get_or sums k sum
    → IsSummary trace sum
summary_of_both records sums k trace sum are within trace_is sum_is =
    subst (λ (s : Summary). IsSummary trace s) (sym sum_is)
    (subst (λ (t : RecordValue). IsSummary t (get_or sums k sum)) (sym trace_is)
    (summary_at records sums k trace sum are within))

pub taking_at : (records : List RecordValue) (sums : List Summary) (k : ℕ) (trace : RecordValue) (sum : Summary)
    → AreSummaries records sums → k < length records → trace ≡ get_or records k trace → sum ≡ get_or sums k sum
    → AreFlows (taken_passes trace.events) sum.taking.flows
taking_at records sums k trace sum are within trace_is sum_is =
    (summary_of_both records sums k trace sum are within trace_is sum_is).taking.flows

-- ---- a record that takes no signal of a timer takes none before its time

or_left : (a b : Bool) → (a || b) ≡ false → a ≡ false
or_left false b none = refl
or_left true b none = let wrong : ⊥ = cc in absurd wrong

or_right : (a b : Bool) → (a || b) ≡ false → b ≡ false
or_right false b none = none
or_right true b none = let wrong : ⊥ = cc in absurd wrong

none_at : (before later : List Event) (happened : Event) → list_any takes_timer (before ++ happened ∷ later) ≡ false
    → takes_timer happened ≡ false
none_at [] later happened none = or_left (takes_timer happened) (list_any takes_timer later) none
none_at (e ∷ es) later happened none =
    none_at es later happened (or_right (takes_timer e) (list_any takes_timer (es ++ happened ∷ later)) none)

got_due : (before : List Event) (at : ℕ) (g : got.Got) → is_timer g ≡ false → IsGotDue before at g
got_due before at (came.Signal item) none = tt
got_due before at (came.Timer key) none = let wrong : ⊥ = cc in absurd wrong

due_at : (before : List Event) (happened : Event) → takes_timer happened ≡ false → IsDue before happened
due_at before (event.Consumed at g) none = got_due before at g none
due_at before (event.Prior at g) none = got_due before at g none
due_at before (event.Discarded at g) none = got_due before at g none
due_at before happened none = tt

pub timed_without : (trace : RecordValue) (sum : Summary) → IsSummary trace sum → sum.taking.timer ≡ false
    → AreTimed trace
timed_without trace sum is none = record {
  rising = is.course.rising;
  due = λ before later happened split.
      due_at before happened
      (none_at before later happened
      (ap (λ (l : List Event). list_any takes_timer l) (sym split) ∙ sym is.taking.timer ∙ none));
}

pub timed_with : (trace : RecordValue) (sum : Summary) → IsSummary trace sum → AreDue trace.events → AreTimed trace
timed_with trace sum is due = record { rising = is.course.rising; due = due }
