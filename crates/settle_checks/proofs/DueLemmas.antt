-- The times for which timers are set, with one event more.
use Rattle.std.proofs.Common.{◌≡◌, ◌∙◌, ap, cond, refl, subst, sym, ⊎_elim, ℕ, Bool, false, Err, IfOk, IsTrue, List, [], ◌∷◌, ◌++◌, None, Ok, OnOk, Option, Result, Some, is_err}
use Rattle.std.specs.BTreeMap.{BTreeMap, Updates, is_at}
use Rattle.port_model.specs.Timers.{key_order, same_key}
use Rattle.port_model.specs.declared.got.Got as got
use Rattle.port_model.specs.contracts.values.timer_key.TimerKeyOrd.TheImpl.Laws.{matches_eq-law}
use Rattle.port_model.specs.declared.values.item.SignalId.{SignalId}
use Rattle.port_model.specs.declared.values.timer_key.TimerKey.{TimerKey}
use Rattle.port_model.specs.declared.values.value.Value.{Value}
use Rattle.run_record.specs.Entry.{event_of}
use Rattle.run_record.specs.Event as event
use Rattle.run_record.specs.Event.{Event}
use Rattle.run_record.specs.declared.entry.Entry.{Entry}
use Rattle.run_record.specs.declared.entry.Entry.TheVariants as kept
use Rattle.run_record.specs.declared.entry.Stimulus.{Stimulus}
use Rattle.settle_meaning.specs.Timers.{AreDue, IsDue, due_after, due_after_one}
use Rattle.settle_checks.proofs.SummingLists.{done_all, done_more}
use Rattle.settle_checks.proofs.Splits.{IsLast, StandsIn, last_or}
use Rattle.settle_checks.specs.Dues.{AreTimesAfter, IsDueNext, IsGotNext, IsWith, Times, time_of}

-- ---- the times

-- a map tells keys apart as events do
pub key_is : (key other : TimerKey) → is_at (key_order key) other ≡ same_key key other
key_is key other = sym (matches_eq-law key other)

-- a map with another value at one key
pub map_with : (key : TimerKey) (due : Option ℕ) (old new : BTreeMap TimerKey ℕ) → Updates key_order old new key due
    → IsWith key due old.entries new.entries
map_with key due old new updates other =
    updates.0 other ∙ ap (λ (b : Bool). cond b due (time_of old.entries other)) (key_is key other)

-- what is said of an answer that is no error
pub on_ok : {A E : Type 0} (answer : Result A E) (P : Type 0) → is_err answer ≡ false → OnOk answer P → P
on_ok (Ok a) P none so = so
on_ok (Err e) P none so = let wrong : ⊥ = cc in absurd wrong

due_more : (key : TimerKey) (due : Option ℕ) (done : List Event) (happened : Event)
    → due_after key due (done ++ happened ∷ []) ≡ due_after_one key (due_after key due done) happened
due_more key due [] happened = refl
due_more key due (first ∷ rest) happened = due_more key (due_after_one key due first) rest happened

-- an event that leaves all timers
pub times_same : (done : List Event) (happened : Event) (times : Times)
    → ((key : TimerKey) (due : Option ℕ) → due_after_one key due happened ≡ due) → AreTimesAfter done times
    → AreTimesAfter (done ++ happened ∷ []) times
times_same done happened times same are key =
    are key ∙ sym (due_more key None done happened ∙ same key (due_after key None done))

-- an event that changes what the timers are set for
pub times_by : (done : List Event) (happened : Event) (times : Times)
    → ((key : TimerKey) → time_of times key ≡ due_after_one key (due_after key None done) happened)
    → AreTimesAfter (done ++ happened ∷ []) times
times_by done happened times are key = are key ∙ sym (due_more key None done happened)

-- one timer is set for another time, or isn't set any more
pub times_with : (done : List Event) (happened : Event) (op : TimerKey) (due : Option ℕ) (old new : Times)
    → IsWith op due old new
    → ((key : TimerKey) (was : Option ℕ) → due_after_one key was happened ≡ cond (same_key op key) due was)
    → AreTimesAfter done old → AreTimesAfter (done ++ happened ∷ []) new
times_with done happened op due old new changed does are key =
    changed key
    ∙ ap (λ (was : Option ℕ). cond (same_key op key) due was) (are key)
    ∙ sym (due_more key None done happened ∙ does key (due_after key None done))

-- ---- one event

-- a set
pub due_set : (done : List Event) (entry : Entry) (values : List Value) (timer : SignalId) (due : ℕ)
    (key : TimerKey) (old new : Times) → entry ≡ kept.Set timer due
    → key ≡ record { name = timer; values = values } → IsWith key (Some due) old new → AreTimesAfter done old
    → IsDueNext done (event_of entry values) (done ++ event_of entry values ∷ []) new
due_set done entry values timer due key old new is key_is changed are =
    subst (λ (e : Entry). IsDueNext done (event_of e values) (done ++ event_of e values ∷ []) new) (sym is) next where
      next : IsDueNext done (event.Set (record { name = timer; values = values }) due)
          (done ++ event.Set (record { name = timer; values = values }) due ∷ []) new
      next = record {
        due = tt;
        times_are = times_with done (event.Set (record { name = timer; values = values }) due)
            (record { name = timer; values = values }) (Some due) old new
            (subst (λ (k : TimerKey). IsWith k (Some due) old new) key_is changed) (λ k was. refl) are;
      }

-- a reset
pub due_reset : (done : List Event) (entry : Entry) (values : List Value) (timer : SignalId)
    (key : TimerKey) (old new : Times) → entry ≡ kept.Reset timer
    → key ≡ record { name = timer; values = values } → IsWith key None old new → AreTimesAfter done old
    → IsDueNext done (event_of entry values) (done ++ event_of entry values ∷ []) new
due_reset done entry values timer key old new is key_is changed are =
    subst (λ (e : Entry). IsDueNext done (event_of e values) (done ++ event_of e values ∷ []) new) (sym is) next where
      next : IsDueNext done (event.Reset (record { name = timer; values = values }))
          (done ++ event.Reset (record { name = timer; values = values }) ∷ []) new
      next = record {
        due = tt;
        times_are = times_with done (event.Reset (record { name = timer; values = values }))
            (record { name = timer; values = values }) None old new
            (subst (λ (k : TimerKey). IsWith k None old new) key_is changed) (λ k was. refl) are;
      }

-- a take
module _ (done : List Event) (at : ℕ) (got : got.Got) (new : Times) (next : IsGotNext done at got new) where
  pub due_consumed : IsDueNext done (event.Consumed at got) (done ++ event.Consumed at got ∷ []) new
  due_consumed = record { due = next.due; times_are = times_by done (event.Consumed at got) new next.times_are }

  pub due_prior : IsDueNext done (event.Prior at got) (done ++ event.Prior at got ∷ []) new
  due_prior = record { due = next.due; times_are = times_by done (event.Prior at got) new next.times_are }

  pub due_discarded : IsDueNext done (event.Discarded at got) (done ++ event.Discarded at got ∷ []) new
  due_discarded = record { due = next.due; times_are = times_by done (event.Discarded at got) new next.times_are }

-- what is known of an answer to a take is known of the event
pub got_so : {E : Type 0} (answer : Result Bool E) (old new : Times) (at : ℕ) (got : got.Got) (told happened : Event)
    → told ≡ happened
    → ((done : List Event) → IsGotNext done at got new → IsDueNext done happened (done ++ happened ∷ []) new)
    → IfOk answer (λ due. IsTrue due → (done : List Event) → AreTimesAfter done old → IsGotNext done at got new)
    → IfOk answer (λ due. IsTrue due → (done : List Event) → AreTimesAfter done old
    → IsDueNext done told (done ++ told ∷ []) new)
got_so (Err e) old new at got told happened is more so = tt
got_so (Ok due) old new at got told happened is more so =
    λ right done are.
    subst (λ (e : Event). IsDueNext done e (done ++ e ∷ []) new) (sym is) (more done (so right done are))

-- any other
pub due_other : (done : List Event) (entry : Entry) (values : List Value) (times : Times)
    → ((at : ℕ) (got : Stimulus) → entry ≡ kept.Consumed at got → ⊥)
    → ((at : ℕ) (got : Stimulus) → entry ≡ kept.Prior at got → ⊥)
    → ((at : ℕ) (got : Stimulus) → entry ≡ kept.Discarded at got → ⊥)
    → ((timer : SignalId) (due : ℕ) → entry ≡ kept.Set timer due → ⊥)
    → ((timer : SignalId) → entry ≡ kept.Reset timer → ⊥) → AreTimesAfter done times
    → IsDueNext done (event_of entry values) (done ++ event_of entry values ∷ []) times
due_other done (kept.Consumed at got) values times consumed prior discarded set reset are =
    absurd (consumed at got refl)
due_other done (kept.Prior at got) values times consumed prior discarded set reset are = absurd (prior at got refl)
due_other done (kept.Discarded at got) values times consumed prior discarded set reset are =
    absurd (discarded at got refl)
due_other done (kept.Set timer due) values times consumed prior discarded set reset are =
    absurd (set timer due refl)
due_other done (kept.Reset timer) values times consumed prior discarded set reset are =
    absurd (reset timer refl)
due_other done entry values times consumed prior discarded set reset are = record {
  due = tt;
  times_are = times_same done (event_of entry values) times (λ key due. refl) are;
}

-- ---- all events

pub due_one : (done : List Event) (happened : Event) → AreDue done → IsDue done happened
    → AreDue (done ++ happened ∷ [])
due_one done happened are is before later next split =
    ⊎_elim
    (λ (end : IsLast done happened next before later).
    subst (λ (l : List Event). IsDue l next) (sym end.before_is)
    (subst (λ (e : Event). IsDue done e) end.same is))
    (λ (stands : StandsIn done happened next before later). are before stands.rest next stands.stands)
    (last_or happened next done before later split)

-- some of the events are looked at, and these are left
pub record AreDueSoFar (events left : List Event) (times : Times) : Type 0 where
  pub done : List Event
  pub split : events ≡ done ++ left
  pub due : AreDue done
  pub times_are : AreTimesAfter done times

pub due_none : (events left : List Event) (times : Times) → events ≡ left → AreTimesAfter [] times
    → AreDueSoFar events left times
due_none events left times all none = record {
  done = [];
  split = all;
  due = λ before later happened split. let wrong : ⊥ = no_split before later happened split in absurd wrong;
  times_are = none;
} where
  no_split : (before later : List Event) (happened : Event) → [] ≡ before ++ happened ∷ later → ⊥
  no_split [] later happened is = cc
  no_split (b ∷ bs) later happened is = cc

pub due_next : (events left later : List Event) (one : Event) (old new : Times) → left ≡ one ∷ later
    → (far : AreDueSoFar events left old) → IsDueNext far.done one (far.done ++ one ∷ []) new
    → AreDueSoFar events later new
due_next events left later one old new is far next = record {
  done = far.done ++ one ∷ [];
  split = done_more far.done later one events left far.split is;
  due = due_one far.done one far.due next.due;
  times_are = next.times_are;
}

pub due_all : (events left : List Event) (times : Times) → left ≡ [] → AreDueSoFar events left times → AreDue events
due_all events left times none far = subst AreDue (done_all far.done events left far.split none) far.due
