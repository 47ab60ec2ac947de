-- Why no event of an instance can be told next.
use Rattle.std.proofs.Common.{◌≡◌, ℕ, ◌==◌, true, false, true≢false, List, [], ◌∷◌, ◌++◌, length, slice_get, Contains, Option, None, Some, refl, sym, ◌∙◌, ap, subst, arith, append-nil, eq-eqb}
use Rattle.std.proofs.lemmas.Bool.{eqb-true}
use Rattle.std.proofs.lemmas.List.Elements.{Contains-push}
use Rattle.run_record.specs.Entry.{event_of}
use Rattle.run_record.specs.Event.{Event}
use Rattle.run_record.specs.Record.{RecordValue}
use Rattle.view_timeline.specs.Did.{Did, Message, did, is_closing, taken}
use Rattle.view_timeline.specs.Events.{HasLeft, IsBarred, IsDone, IsNext, IsTold, Keeps, dead, done_of, earlier, closing, has_number, reached, unbegun, untimely}
use Rattle.view_timeline.specs.Hindered.{CantGoOn, Hindered, IsLeft, IsNextOf, all_is_told, closes, ended, goes_on, has_closed, has_no_record, is_early, is_hindered, is_missing, is_past, lives_not}
use Rattle.view_timeline.specs.Moves.{GoOn, IsLatest, moves_of}
use Rattle.view_timeline.specs.Rows.{IsFirst}
use Rattle.view_timeline.specs.Traffic.{IsMissing, ledger_of}
use Rattle.view_timeline.specs.declared.cursor.Next.{Next}
use Rattle.view_timeline.specs.declared.events.Events.{Events}
use Rattle.view_timeline.specs.declared.events.Reached.{Reached}
use Rattle.view_timeline.specs.declared.moves.Link.{Link}
use Rattle.view_timeline.specs.declared.moves.Move.{Move}
use Rattle.view_timeline.proofs.MoveLemmas.{get-both, get-middle}

-- ---- the next event

module _ (records : List RecordValue) (events : Events) (keeps : Keeps records events) (place : ℕ) where
  -- whose record it is
  pub number-at : (one : Reached) → reached events place ≡ Some one → (trace : RecordValue)
      → slice_get records place ≡ Some trace → one.cursor.number ≡ trace.pid
  number-at one there trace trace_there =
      let t : IsTold events.moves.items place trace events.reached.items = keeps.told place trace trace_there in
      let same : t.one ≡ one = let e : Some t.one ≡ Some one = sym t.is_there ∙ there in cc in
      ap (λ (r : Reached). r.cursor.number) (sym same) ∙ t.at.number

  -- what a cursor has next its record has next
  there-next : (one : Reached) → reached events place ≡ Some one → (e : Event) (rest : List Event)
      → one.cursor.left ≡ e ∷ rest → IsNextOf records events.moves.items place (did one.cursor.number e)
  there-next one there e rest left =
      let trace : (trace : RecordValue) × (slice_get records place ≡ Some trace) =
      get-both events.reached.items records keeps.as_many place one there in
      let t : IsTold events.moves.items place trace.0 events.reached.items = keeps.told place trace.0 trace.1 in
      let same : t.one ≡ one = let s : Some t.one ≡ Some one = sym t.is_there ∙ there in cc in
      let left_so : t.one.cursor.left ≡ e ∷ rest = ap (λ (r : Reached). r.cursor.left) same ∙ left in
      record {
        trace = trace.0;
        is_there = trace.1;
        end = t.one.cursor.told;
        told = t.told;
        event = e;
        event_is = ap (slice_get trace.0.events) (sym t.at.told)
            ∙ ap (λ (es : List Event). slice_get es (length t.at.first))
            (t.at.all ∙ ap (λ (l : List Event). t.at.first ++ l) left_so)
            ∙ get-middle t.at.first e rest;
        next_is = ap (λ (n : ℕ). did n e) (number-at one there trace.0 trace.1);
      }

  pub next-there : (next : Next) → IsNext events place next
      → IsNextOf records events.moves.items place (did next.number (event_of next.entry next.values.now))
  next-there next is =
      subst (λ (n : ℕ). IsNextOf records events.moves.items place (did n (event_of next.entry next.values.now)))
      is.number (there-next is.one is.is_there (event_of next.entry next.values.now) next.rest.left is.left)

  -- where all is told
  done-whole : IsDone events place → (trace : RecordValue) → slice_get records place ≡ Some trace
      → GoOn 0 (moves_of place events.moves.items) (length trace.events)
  done-whole done trace there =
      let t : IsTold events.moves.items place trace events.reached.items = keeps.told place trace there in
      let none : t.one.cursor.left ≡ [] = done t.one t.is_there in
      let all : trace.events ≡ t.at.first =
      t.at.all ∙ ap (λ (l : List Event). t.at.first ++ l) none ∙ append-nil t.at.first in
      let end : t.one.cursor.told ≡ length trace.events = sym t.at.told ∙ ap length (sym all) in
      subst (GoOn 0 (moves_of place events.moves.items)) end t.told

-- ---- whose record it is

numbered : (number : ℕ) (o : Option Reached) → has_number number o ≡ true
    → (one : Reached) × (o ≡ Some one) × ((one.cursor.number == number) ≡ true)
numbered number None is = let no : ⊥ = cc in absurd no
numbered number (Some one) is = (one, refl, is)

numbered-number : (number : ℕ) (o : Option Reached) (one : Reached) → o ≡ Some one → has_number number o ≡ true
    → one.cursor.number ≡ number
numbered-number number o one there is =
    let found = numbered number o is in
    let e : Some found.0 ≡ Some one = sym found.1 ∙ there in
    let same : found.0 ≡ one = cc in
    eqb-true one.cursor.number number (ap (λ (r : Reached). r.cursor.number == number) (sym same) ∙ found.2)

-- ---- nothing of it can be told

-- what it takes doesn't wait first
missing-hinders : (records : List RecordValue) (events : Events) → Keeps records events → (one : Did)
    → IsMissing (taken one) (ledger_of events.traffic)
    → Hindered records (done_of records events) events.traffic.links.items one
missing-hinders records events keeps one = by (taken one) refl
  where
    by : (message : Option Message) → taken one ≡ message → IsMissing message (ledger_of events.traffic)
        → Hindered records (done_of records events) events.traffic.links.items one
    by None takes missing = absurd missing
    by (Some message) takes missing =
        is_missing message takes
        (λ first. missing (subst (IsFirst message.values) (keeps.tells.waiting message.channel) first))

module _ (records : List RecordValue) (events : Events) (keeps : Keeps records events) (number : ℕ) where
  pub no-record : ((place : ℕ) → has_number number (reached events place) ≡ false)
      → CantGoOn records events.moves.items events.traffic.links.items number
  no-record none = has_no_record (λ place trace there own.
      let t : IsTold events.moves.items place trace events.reached.items = keeps.told place trace there in
      let is : (t.one.cursor.number == number) ≡ true = eq-eqb t.one.cursor.number number (t.at.number ∙ own) in
      true≢false (sym is ∙ ap (has_number number) (sym t.is_there) ∙ none place))

  module _ (place : ℕ) (own : has_number number (reached events place) ≡ true) where
    pub all-told : IsDone events place → CantGoOn records events.moves.items events.traffic.links.items number
    all-told done =
        let found = numbered number (reached events place) own in
        let trace : (trace : RecordValue) × (slice_get records place ≡ Some trace) =
        get-both events.reached.items records keeps.as_many place found.0 found.1 in
        all_is_told place trace.0 trace.1
        (sym (number-at records events keeps place found.0 found.1 trace.0 trace.1)
        ∙ eqb-true found.0.cursor.number number found.2)
        (done-whole records events keeps place done trace.0 trace.1)

    pub next-number : (next : Next) → IsNext events place next → next.number ≡ number
    next-number next is =
        sym is.number ∙ numbered-number number (reached events place) is.one is.is_there own

    held : (next : Next) → IsNext events place next
        → Hindered records (done_of records events) events.traffic.links.items
        (did next.number (event_of next.entry next.values.now))
        → CantGoOn records events.moves.items events.traffic.links.items number
    held next is hinders =
        is_hindered place (did next.number (event_of next.entry next.values.now))
        (next-there records events keeps place next is) (next-number next is) hinders

    -- it is barred
    pub barred-held : (next : Next) → IsNext events place next → IsLatest events.latest (done_of records events)
        → IsBarred events next.number (event_of next.entry next.values.now)
        → CantGoOn records events.moves.items events.traffic.links.items number
    barred-held next is latest barred = held next is (by barred)
      where
        by : IsBarred events next.number (event_of next.entry next.values.now)
            → Hindered records (done_of records events) events.traffic.links.items
            (did next.number (event_of next.entry next.values.now))
        by (dead lives) = lives_not (sym (keeps.tells.living next.number) ∙ lives)
        by (unbegun to) =
            is_early to.receiver to.goes_to (sym (keeps.tells.begun to.receiver) ∙ to.begun_not)
        by (untimely (earlier at timed less)) =
            is_past at events.latest timed (latest.is_told (omega (arith, less))) less
        by (untimely (closing is)) = closes is

    -- what it takes doesn't wait first
    pub missing-held : (next : Next) → IsNext events place next
        → IsMissing (taken (did next.number (event_of next.entry next.values.now))) (ledger_of events.traffic)
        → CantGoOn records events.moves.items events.traffic.links.items number
    missing-held next is missing =
        held next is
        (missing-hinders records events keeps (did next.number (event_of next.entry next.values.now)) missing)

-- the same where nothing is told since
pub held-kept : (records : List RecordValue) (old new : Events) (number : ℕ) → new.moves ≡ old.moves
    → new.traffic.links.items ≡ old.traffic.links.items
    → CantGoOn records old.moves.items old.traffic.links.items number
    → CantGoOn records new.moves.items new.traffic.links.items number
held-kept records old new number moves links cant =
    subst (λ (ls : List Link). CantGoOn records new.moves.items ls number) (sym links)
    (subst (λ (ms : List Move). CantGoOn records ms old.traffic.links.items number)
    (ap (λ m. m.items) (sym moves)) cant)

-- ---- what is left where records close

module _ (records : List RecordValue) (events : Events) (keeps : Keeps records events) (place : ℕ) (next : Next)
    (is : IsNext events place next) where
  -- it closes no record
  pub left-open : is_closing (event_of next.entry next.values.now) ≡ false
      → IsLeft records events.moves.items next.number
  left-open other = record {
    place = place;
    next = did next.number (event_of next.entry next.values.now);
    is_next = next-there records events keeps place next is;
    number_is = refl;
    why = goes_on other;
  }

  -- its instance has ended
  pub left-ended : (ledger_of events.traffic).living next.number ≡ false
      → IsLeft records events.moves.items next.number
  left-ended lives = record {
    place = place;
    next = did next.number (event_of next.entry next.values.now);
    is_next = next-there records events keeps place next is;
    number_is = refl;
    why = ended (sym (keeps.tells.living next.number) ∙ lives);
  }

  -- the record has closed by then
  pub left-closed : (new : Events) → Keeps records new
      → done_of records new ≡ done_of records events ++ did next.number (event_of next.entry next.values.now) ∷ []
      → is_closing (event_of next.entry next.values.now) ≡ true → (number : ℕ) → HasLeft new place number
      → IsLeft records new.moves.items number
  left-closed new kept told is_close number has = by has.one.cursor.left refl
    where
      -- both are of the same instance
      own : next.number ≡ has.one.cursor.number
      own =
          let trace : (trace : RecordValue) × (slice_get records place ≡ Some trace) =
          get-both events.reached.items records keeps.as_many place is.one is.is_there in
          sym is.number ∙ number-at records events keeps place is.one is.is_there trace.0 trace.1
          ∙ sym (number-at records new kept place has.one has.is_there trace.0 trace.1)

      by : (left : List Event) → has.one.cursor.left ≡ left → IsLeft records new.moves.items number
      by [] none =
          let some = has.left in
          let no : ⊥ = let many = ap length none in omega (arith, some, many) in absurd no
      by (e ∷ rest) left = record {
        place = place;
        next = did has.one.cursor.number e;
        is_next = there-next records new kept place has.one has.is_there e rest left;
        number_is = has.number_is;
        why = has_closed (did next.number (event_of next.entry next.values.now))
            (subst (λ (ds : List Did). Contains ds (did next.number (event_of next.entry next.values.now))) (sym told)
            (Contains-push (done_of records events) (did next.number (event_of next.entry next.values.now))))
            own is_close;
      }
