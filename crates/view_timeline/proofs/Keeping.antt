-- What is told stays told, with one event more.
use Rattle.std.proofs.Common.{◌≡◌, ℕ, ◌≤◌, ◌+◌, ◌==◌, Contains, Bool, true, false, List, [], ◌∷◌, ◌++◌, length, length-set, set, slice_get, Option, None, Some, refl, sym, ◌∙◌, ap, subst, append_assoc, append-nil, if◌then◌else◌}
use Rattle.std.specs.List.{AllByRecursion}
use Rattle.std.proofs.lemmas.Bool.{eqb-false, eqb-true}
use Rattle.std.proofs.lemmas.List.{length_push}
use Rattle.std.proofs.lemmas.List.Elements.{Contains-push}
use Rattle.run_record.specs.Entry.{event_of}
use Rattle.run_record.specs.Event as event
use Rattle.run_record.specs.Record.{RecordValue}
use Rattle.view_timeline.specs.Events.{AreTold, Grows, IsInTime, IsNext, IsTold, Keeps, done_of, latest_after, time_or}
use Rattle.view_timeline.specs.declared.events.Events.{Events}
use Rattle.view_timeline.specs.declared.events.Reached.{Reached}
use Rattle.view_timeline.proofs.Growing.{IsNextPart, done-grown, longest-grown, other-grown, own-grown, parts-grown}
use Rattle.view_timeline.proofs.MoveLemmas.{began-last, get-both, get-set_other, get-set_same, times-append, up_to-later, up_to-move}
use Rattle.view_timeline.proofs.Steps.{tells-same}
use Rattle.view_timeline.proofs.Takes.{tells-notes}
use Rattle.view_timeline.specs.Did.{Did, begins, did, time_of}
use Rattle.view_timeline.specs.Moves.{GoOn, IsLatest, IsNotLater, IsUpTo, NeverFall, began, done_by, moves_of, times}
use Rattle.view_timeline.specs.Cursor.{IsAt}
use Rattle.view_timeline.specs.Traffic.{IsSame, Ledger, Notes, Tells, ledger_of}
use Rattle.view_timeline.specs.declared.cursor.Next.{Next}
use Rattle.view_timeline.specs.declared.moves.Move.{Move}

-- one event is told, as a part
pub record IsMade (old : Events) (moves_now : List Move) (reached_now : List Reached) (now : Ledger) (place : ℕ)
    (next : Next) (began_now : Option ℕ) (part : Move) : Type 0 where
  pub living : (ledger_of old.traffic).living next.number ≡ true
  pub notes : Notes (did next.number (event_of next.entry next.values.now)) (ledger_of old.traffic) now
  pub grows : Grows old.moves.items moves_now part (begins (event_of next.entry next.values.now))
  pub reached : reached_now ≡ set old.reached.items place (record { cursor = next.rest; began = began_now })
  pub record_is : part.record.0 ≡ place
  pub first_is : part.first.0 ≡ next.first
  pub end_is : part.end.0 ≡ next.rest.told
  pub at_is : part.at ≡ began_now

module _ (records : List RecordValue) (old : Events) (moves_now : List Move) (reached_now : List Reached)
    (now : Ledger) (place : ℕ) (next : Next) (began_now : Option ℕ) (part : Move) (keeps : Keeps records old)
    (is_next : IsNext old place next)
    (began_is : began_now ≡ (if begins (event_of next.entry next.values.now)
    then time_of (event_of next.entry next.values.now) else is_next.one.began))
    (made : IsMade old moves_now reached_now now place next began_now part) where
  abbrev e : event.Event
  e = event_of next.entry next.values.now

  there : (trace : RecordValue) × (slice_get records place ≡ Some trace)
  there = get-both old.reached.items records keeps.as_many place is_next.one is_next.is_there

  abbrev trace : RecordValue
  trace = there.0

  told_of : IsTold old.moves.items place trace old.reached.items
  told_of = keeps.told place trace there.1

  own : told_of.one ≡ is_next.one
  own = let same : Some told_of.one ≡ Some is_next.one = sym told_of.is_there ∙ is_next.is_there in cc

  all_of : trace.events ≡ told_of.at.first ++ e ∷ next.rest.left
  all_of =
      told_of.at.all
      ∙ ap (λ (r : Reached). told_of.at.first ++ r.cursor.left) own
      ∙ ap (λ l. told_of.at.first ++ l) is_next.left

  number_of : next.number ≡ trace.pid
  number_of = sym is_next.number ∙ ap (λ (r : Reached). r.cursor.number) (sym own) ∙ told_of.at.number

  first_at : length told_of.at.first ≡ part.first.0
  first_at = told_of.at.told ∙ ap (λ (r : Reached). r.cursor.told) own ∙ is_next.first ∙ sym made.first_is

  began_first : is_next.one.began ≡ began None told_of.at.first
  began_first = ap (λ (r : Reached). r.began) (sym own) ∙ told_of.began_is

  began_here : began_now ≡ (if begins e then time_of e else began None told_of.at.first)
  began_here = began_is ∙ ap (λ (b : Option ℕ). if begins e then time_of e else b) began_first

  next-part : IsNextPart records part e
  next-part = record {
    trace = trace;
    there = ap (slice_get records) made.record_is ∙ there.1;
    first = told_of.at.first;
    rest = next.rest.left;
    all = all_of;
    told = first_at;
    end = made.end_is ∙ is_next.rest_told ∙ ap (λ (n : ℕ). n + 1) (sym made.first_is);
    at = made.at_is ∙ began_here;
  }

  was_on : GoOn 0 (moves_of part.record.0 old.moves.items) part.first.0
  was_on =
      subst (λ (k : ℕ). GoOn 0 (moves_of k old.moves.items) part.first.0) (sym made.record_is)
      (subst (GoOn 0 (moves_of place old.moves.items)) (sym told_of.at.told ∙ first_at) told_of.told)

  pub done-made : done_by records moves_now ≡ done_of records old ++ did next.number e ∷ []
  unfolding next-part
  done-made =
      done-grown records part e next-part old.moves.items moves_now keeps.parts was_on made.grows
      ∙ ap (λ (n : ℕ). done_of records old ++ did n e ∷ []) (sym number_of)

  abbrev reached_one : Reached
  reached_one = record { cursor = next.rest; began = began_now }

  is_at : IsAt trace next.rest
  is_at = record {
    number = is_next.rest_number ∙ number_of;
    first = told_of.at.first ++ e ∷ [];
    all = all_of ∙ sym (append_assoc told_of.at.first (e ∷ []) next.rest.left);
    told =
        length_push told_of.at.first e ∙ ap (λ (n : ℕ). n + 1) (first_at ∙ made.first_is) ∙ sym is_next.rest_told;
  }

  told_own : IsTold moves_now place trace reached_now
  unfolding is_at told_of
  told_own = record {
    one = reached_one;
    is_there = ap (λ l. slice_get l place) made.reached
        ∙ get-set_same old.reached.items place is_next.one reached_one is_next.is_there;
    at = is_at;
    began_is = began_here ∙ sym (began-last None told_of.at.first e);
    told =
        subst (λ (k : ℕ). GoOn 0 (moves_of k moves_now) next.rest.told) made.record_is
        (subst (GoOn 0 (moves_of part.record.0 moves_now)) made.end_is
        (own-grown records part e next-part old.moves.items moves_now keeps.parts was_on made.grows));
  }

  told_other : (at : ℕ) → (at ≡ place → ⊥) → (other : RecordValue) → slice_get records at ≡ Some other
      → IsTold moves_now at other reached_now
  told_other at apart other other_there =
      let was = keeps.told at other other_there in
      let same : moves_of at moves_now ≡ moves_of at old.moves.items =
      other-grown records part e next-part old.moves.items moves_now keeps.parts was_on made.grows at
      (λ is. apart (is ∙ made.record_is)) in
      record {
        one = was.one;
        is_there = ap (λ l. slice_get l at) made.reached
            ∙ get-set_other old.reached.items place at reached_one apart ∙ was.is_there;
        at = was.at;
        began_is = was.began_is;
        told = subst (λ l. GoOn 0 l was.one.cursor.told) (sym same) was.told;
      }

  told_all : (at : ℕ) (other : RecordValue) → slice_get records at ≡ Some other
      → IsTold moves_now at other reached_now
  told_all at other other_there = by (at == place) refl
    where
      by : (b : Bool) → (at == place) ≡ b → IsTold moves_now at other reached_now
      by true here =
          let is : at ≡ place = eqb-true at place here in
          let same : Some trace ≡ Some other = sym there.1 ∙ ap (slice_get records) (sym is) ∙ other_there in
          let t : trace ≡ other = cc in
          subst (λ (k : ℕ). IsTold moves_now k other reached_now) (sym is)
          (subst (λ (r : RecordValue). IsTold moves_now place r reached_now) t told_own)
      by false apart = told_other at (eqb-false at place apart) other other_there

  tells_now : Tells records (done_by records moves_now) now
  tells_now =
      subst (λ ds. Tells records ds now) (sym done-made)
      (tells-notes records (done_of records old) (ledger_of old.traffic) now (did next.number e) keeps.tells
      (λ _. sym (keeps.tells.living next.number) ∙ made.living) made.notes)

  pub keeps-made : AreTold records moves_now reached_now now
  keeps-made = record {
    as_many = ap length made.reached ∙ length-set old.reached.items place reached_one ∙ keeps.as_many;
    parts = parts-grown records part e next-part old.moves.items moves_now keeps.parts was_on made.grows;
    longest =
        longest-grown records part e next-part old.moves.items moves_now keeps.parts was_on keeps.longest made.grows;
    told = told_all;
    tells = tells_now;
  }

-- ---- times

timed-begins : (e : event.Event) → begins e ≡ false → time_of e ≡ None
timed-begins (event.Start at) shut = let never : ⊥ = cc in absurd never
timed-begins (event.Consumed at got) shut = let never : ⊥ = cc in absurd never
timed-begins (event.Prior at got) shut = let never : ⊥ = cc in absurd never
timed-begins (event.Discarded at got) shut = let never : ⊥ = cc in absurd never
timed-begins (event.Provided at number) shut = let never : ⊥ = cc in absurd never
timed-begins (event.FailedAt at why) shut = let never : ⊥ = cc in absurd never
timed-begins _ shut = refl

pub up_to-same : (time : Option ℕ) (old new : List Did) → times new ≡ times old → IsUpTo time old → IsUpTo time new
up_to-same time old new same upto = record {
  forward = subst NeverFall (sym same) upto.forward;
  up_to = subst (AllByRecursion (λ (one : Option ℕ). IsNotLater one time)) (sym same) upto.up_to;
}

-- an event that begins nothing, or one that begins then
latest-same : (latest : ℕ) (old new : List Did) → times new ≡ times old → IsLatest latest old → IsLatest latest new
latest-same latest old new same was = record {
  up_to = up_to-same (Some latest) old new same was.up_to;
  is_told = λ some. subst (λ (ts : List (Option ℕ)). Contains ts (Some latest)) (sym same) (was.is_told some);
}

latest-more : (latest at : ℕ) (old new : List Did) → latest ≤ at → times new ≡ times old ++ Some at ∷ []
    → IsLatest latest old → IsLatest at new
latest-more latest at old new le more was = record {
  up_to = up_to-move (Some at) old new more (up_to-later latest at old le was.up_to);
  is_told = λ some. subst (λ (ts : List (Option ℕ)). Contains ts (Some at)) (sym more)
      (Contains-push (times old) (Some at));
}

-- the latest time, once an event is told in time
pub latest-told : (latest number : ℕ) (e : event.Event) (old new : List Did) → new ≡ old ++ did number e ∷ []
    → IsInTime latest e → IsLatest latest old → IsLatest (latest_after latest e) new
latest-told latest number e old new is in_time was = by (begins e) refl
  where
    all : times new ≡ times old ++ (if begins e then time_of e ∷ [] else [])
    all = ap times is ∙ times-append old (did number e ∷ [])

    by : (b : Bool) → begins e ≡ b → IsLatest (latest_after latest e) new
    by true opens =
        let at = in_time opens in
        let now : latest_after latest e ≡ at.0 = ap (time_or latest) at.1 in
        subst (λ (t : ℕ). IsLatest t new) (sym now)
        (latest-more latest at.0 old new at.2
        (all ∙ ap (λ b. times old ++ (if b then time_of e ∷ [] else [])) opens ∙ ap (λ t. times old ++ t ∷ []) at.1) was)
    by false shut =
        let now : latest_after latest e ≡ latest = ap (time_or latest) (timed-begins e shut) in
        let same : times new ≡ times old =
        all ∙ ap (λ b. times old ++ (if b then time_of e ∷ [] else [])) shut ∙ append-nil (times old) in
        subst (λ (t : ℕ). IsLatest t new) (sym now) (latest-same latest old new same was)

-- ---- where nothing is told

pub keeps-same : (records : List RecordValue) (moves : List Move) (all : List Reached) (old now : Ledger)
    → AreTold records moves all old → IsSame old now → AreTold records moves all now
keeps-same records moves all old now keeps same = record {
  as_many = keeps.as_many;
  parts = keeps.parts;
  longest = keeps.longest;
  told = keeps.told;
  tells = tells-same records (done_by records moves) old now same keeps.tells;
}

pub latest-kept : (records : List RecordValue) (old new : Events) → new.moves ≡ old.moves → new.latest ≡ old.latest
    → IsLatest old.latest (done_of records old) → IsLatest new.latest (done_of records new)
latest-kept records old new moves latest was =
    subst (λ (t : ℕ). IsLatest t (done_of records new)) (sym latest)
    (subst (λ ms. IsLatest old.latest (done_by records ms.items)) (sym moves) was)
