-- The time after one event more.
use Rattle.std.proofs.Common.{◌≡◌, ◌∙◌, ◌≤◌, ◌+◌, ap, cond, refl, subst, sym, ⊎_elim, ℕ, List, [], ◌∷◌, ◌++◌, None, Option, Some}
use Rattle.std.proofs.lemmas.List.Elements.{All-nil, All-push}
use Rattle.std.proofs.lemmas.List.Sums.{sum_by_push}
use Rattle.run_record.specs.Event as event
use Rattle.run_record.specs.Event.{Event, is_beginning}
use Rattle.run_semantics.specs.World.{time_after_one}
use Rattle.settle_meaning.specs.Times.{AreRisingFrom, time_by}
use Rattle.settle_meaning.specs.Starts.{IsStartAt}
use Rattle.settle_checks.specs.Summary.{AreStartsAt, IsCourse, IsNextTime, IsStartWith}
use Rattle.settle_checks.specs.declared.summing.course.Course.{Course}

pub time_more : (earlier : ℕ) (done : List Event) (happened : Event)
    → time_by earlier (done ++ happened ∷ []) ≡ time_after_one (time_by earlier done) happened
time_more earlier [] happened = refl
time_more earlier (first ∷ rest) happened = time_more (time_after_one earlier first) rest happened

rising_more : (earlier : ℕ) (done : List Event) (happened : Event) → AreRisingFrom earlier done
    → time_by earlier done ≤ time_after_one (time_by earlier done) happened
    → AreRisingFrom earlier (done ++ happened ∷ [])
rising_more earlier [] happened rising later = (later, tt)
rising_more earlier (first ∷ rest) happened rising later =
    (rising.0, rising_more (time_after_one earlier first) rest happened rising.1 later)

starts_none : (done : List Event) (happened : Event) (new : Option ℕ) → IsStartWith None happened new
    → AreStartsAt None done → AreStartsAt new (done ++ happened ∷ [])
starts_none done (event.Start at) new is all =
    subst (λ (o : Option ℕ). AreStartsAt o (done ++ event.Start at ∷ [])) (sym is.0)
    (All-push (IsStartAt at) done (event.Start at) (all at) refl)
starts_none done happened new is all =
    subst (λ (o : Option ℕ). AreStartsAt o (done ++ happened ∷ [])) (sym is)
    (λ time. All-push (IsStartAt time) done happened (all time) tt)

starts_some : (done : List Event) (happened : Event) (time : ℕ) (new : Option ℕ) → IsStartWith (Some time) happened new
    → AreStartsAt (Some time) done → AreStartsAt new (done ++ happened ∷ [])
starts_some done (event.Start at) time new is all =
    ⊎_elim (λ (none : Some time ≡ None). let wrong : ⊥ = cc in absurd wrong)
    (λ (same : Some time ≡ Some at).
    subst (λ (o : Option ℕ). AreStartsAt o (done ++ event.Start at ∷ [])) (same ∙ sym is.0)
    (All-push (IsStartAt time) done (event.Start at) all (sym (the_same same))))
    is.1 where
      the_same : {a b : ℕ} → Some a ≡ Some b → a ≡ b
      the_same e = cc
starts_some done happened time new is all =
    subst (λ (o : Option ℕ). AreStartsAt o (done ++ happened ∷ [])) (sym is)
    (All-push (IsStartAt time) done happened all tt)

starts_more : (done : List Event) (happened : Event) (old new : Option ℕ) → IsStartWith old happened new
    → AreStartsAt old done → AreStartsAt new (done ++ happened ∷ [])
starts_more done happened None new is all = starts_none done happened new is all
starts_more done happened (Some time) new is all = starts_some done happened time new is all

pub course_none : (course : Course) → course.time ≡ 0 → course.start ≡ None → course.transitions ≡ 0
    → IsCourse [] course
course_none course time start transitions = record {
  rising = tt;
  time = time;
  start = subst (λ (o : Option ℕ). AreStartsAt o []) (sym start) (λ at. All-nil (IsStartAt at));
  transitions = transitions;
}

pub course_more : (done : List Event) (happened : Event) (old new : Course) → IsNextTime old.time happened new.time
    → IsStartWith old.start happened new.start
    → new.transitions ≡ old.transitions + cond (is_beginning happened) 1 0 → IsCourse done old
    → IsCourse (done ++ happened ∷ []) new
course_more done happened old new next start count is = record {
  rising = rising_more 0 done happened is.rising
      (subst (λ t. t ≤ time_after_one t happened) is.time
      (subst (λ t. old.time ≤ t) next.is next.later));
  time = next.is ∙ ap (λ t. time_after_one t happened) is.time ∙ sym (time_more 0 done happened);
  start = starts_more done happened old.start new.start start is.start;
  transitions = count
      ∙ ap (λ n. n + cond (is_beginning happened) 1 0) is.transitions
      ∙ sym (sum_by_push (λ (e : Event). cond (is_beginning e) 1 0) done happened);
}
