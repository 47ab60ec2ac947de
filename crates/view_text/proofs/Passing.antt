-- A walk passes an event.
use Rattle.std.proofs.Common.{◌≡◌, ℕ, ◌+◌, ◌-◌, ◌<◌, ◌≤◌, ◌==◌, Bool, true, false, List, [], ◌∷◌, ◌++◌, length, length-set, set, drop, slice_get, Option, None, Some, refl, sym, ◌∙◌, ap, subst, arith, append_assoc, append-nil, if◌then◌else◌, inl, inr}
use Rattle.std.specs.Borrow.{Bor}
use Rattle.std.specs.Prelude.{IfNone}
use Rattle.std.specs.Slice.{IsItemAt}
use Rattle.std.proofs.lemmas.Bool.{cases_lt, eqb-true, eqb-false, ne_eqb}
use Rattle.std.proofs.lemmas.List.{length_push, nil_from_length}
use Rattle.std.proofs.lemmas.Option.{slice_get-get_or}
use Rattle.run_record.specs.Event.{Event}
use Rattle.run_record.specs.Record.{RecordValue}
use Rattle.view_timeline.specs.Cursor.{CursorValue, IsAt}
use Rattle.view_timeline.specs.declared.moves.Link.{Link}
use Rattle.view_timeline.specs.declared.moves.Move.{Move}
use Rattle.view_text.specs.Walk.{GoesOn, IsIn, IsOnTheWay, StepValue, is_none, left_from, left_in, left_of, passed_after, steps, steps_in}
use Rattle.view_text.proofs.Opening.{AreBefore, goes-within, left-at, left-none, opened, opened-left, same_itself}
use Rattle.view_text.proofs.Ranges.{get-set_other, get-set_same, range-length, range-more, range-none}

none-some : (events : List Event) → 0 < length events → is_none events ≡ false
none-some [] some = absurd (omega (arith, some))
none-some (event ∷ more) some = refl

abbrev pub step_of : RecordValue → Event → Link → Option ℕ → ℕ → Bool → StepValue
step_of trace event link at place closes = record {
  trace = trace;
  event = event;
  link = link;
  at = at;
  place = place;
  closes = closes;
}

-- what holds of each record and its cursor, if one cursor goes on
goes-all : (P : ℕ → RecordValue → CursorValue → Type 0) (records : List RecordValue) (cursors : List CursorValue)
    (at : ℕ) (trace : RecordValue) (old new : CursorValue) → slice_get records at ≡ Some trace
    → slice_get cursors at ≡ Some old → P at trace new
    → ((place : ℕ) (other : RecordValue) (cursor : CursorValue) → (place ≡ at → ⊥)
    → slice_get records place ≡ Some other → slice_get cursors place ≡ Some cursor → P place other cursor)
    → (place : ℕ) (other : RecordValue) (cursor : CursorValue) → slice_get records place ≡ Some other
    → slice_get (set cursors at new) place ≡ Some cursor → P place other cursor
goes-all P records cursors at trace old new there is here others place other cursor there' is' =
    by (place == at) refl
  where
    by : (b : Bool) → (place == at) ≡ b → P place other cursor
    by true own =
        let e : place ≡ at = eqb-true place at own in
        let t : Some trace ≡ Some other = sym there ∙ ap (slice_get records) (sym e) ∙ there' in
        let c : Some new ≡ Some cursor =
        sym (get-set_same cursors at old new is) ∙ ap (slice_get (set cursors at new)) (sym e) ∙ is' in
        let te : trace ≡ other = cc in
        let ce : new ≡ cursor = cc in
        subst (λ (k : ℕ). P k other cursor) (sym e)
        (subst (λ (c : CursorValue). P at other c) ce (subst (λ (t : RecordValue). P at t new) te here))
    by false apart =
        others place other cursor (eqb-false place at apart) there'
        (sym (get-set_other cursors at place new (eqb-false place at apart)) ∙ is')

-- a number below another, and not just before it
apart-lt : (m n : ℕ) → m < n → (m + 1 ≡ n → ⊥) → m + 1 < n
apart-lt m n lt apart = elim (cases_lt (m + 1) n) [
  | inl less ↦ less
  | inr le ↦ absurd (apart (omega (arith, lt, le)))
]

module _ (records : List RecordValue) (cursors : List CursorValue) (move : Move) (moves : List Move)
    (is_in : IsIn records cursors move moves) (trace : RecordValue)
    (there : slice_get records move.record.0 ≡ Some trace) (cursor : CursorValue)
    (is : slice_get cursors move.record.0 ≡ Some cursor) where
  same : is_in.cursor ≡ cursor
  same = let e : Some is_in.cursor ≡ Some cursor = sym is_in.is_there ∙ is in cc

  begun-at : move.first.0 ≤ cursor.told
  begun-at = subst (λ (c : CursorValue). move.first.0 ≤ c.told) same is_in.begun

  goes-at : cursor.told < move.end.0
  goes-at = subst (λ (c : CursorValue). c.told < move.end.0) same is_in.goes

  was : IsAt trace cursor
  was = is_in.at move.record.0 trace cursor there is

  go_own : GoesOn move.record.0 move.end.0 trace moves
  go_own =
      subst (λ (b : Bool). GoesOn move.record.0 (if b then move.end.0 else cursor.told) trace moves)
      (same_itself move.record.0) (is_in.go_on move.record.0 trace cursor there is)

  end-within : move.end.0 ≤ length trace.events
  end-within =
      goes-within records moves move.record.0 move.end.0 trace is_in.are_parts there go_own.end go_own.whole
      go_own.within

  -- an event is left
  some-left : cursor.left ≡ [] → ⊥
  some-left none =
      let end : move.end.0 ≤ length trace.events = end-within in
      let lt : cursor.told < move.end.0 = goes-at in
      let many : length trace.events ≡ length was.first =
      ap length (was.all ∙ ap (λ l. was.first ++ l) none ∙ append-nil was.first) in
      let told : length was.first ≡ cursor.told = was.told in
      omega (arith, end, lt, many, told)

  module _ (event : Event) (rest : CursorValue) (left : cursor.left ≡ event ∷ rest.left)
      (passed : rest.told ≡ cursor.told + 1) (number : rest.number ≡ cursor.number) where
    abbrev further : List CursorValue
    further = set cursors move.record.0 rest

    abbrev more : List Event
    more = left_in trace (cursor.told + 1) move

    now : IsAt trace rest
    now = record {
      number = number ∙ was.number;
      first = was.first ++ event ∷ [];
      all = was.all ∙ ap (λ l. was.first ++ l) left ∙ sym (append_assoc was.first (event ∷ []) rest.left);
      told = length_push was.first event ∙ ap (λ n. n + 1) was.told ∙ sym passed;
    }

    at-all : (place : ℕ) (other : RecordValue) (one : CursorValue) → slice_get records place ≡ Some other
        → slice_get further place ≡ Some one → IsAt other one
    at-all =
        goes-all (λ place other one. IsAt other one) records cursors move.record.0 trace cursor rest there is now
        (λ place other one apart there' is'. is_in.at place other one there' is')

    -- the event is the next one of the move
    range : left_in trace cursor.told move ≡ event ∷ more
    range =
        range-more trace.events was.first event rest.left cursor.told move.end.0
        (was.all ∙ ap (λ l. was.first ++ l) left) was.told goes-at

    -- the move goes on
    inside : cursor.told + 1 < move.end.0 → IsIn records further move moves
    inside lt = record {
      as_many = length-set cursors move.record.0 rest ∙ is_in.as_many;
      at = at-all;
      is_part = is_in.is_part;
      are_parts = is_in.are_parts;
      cursor = rest;
      is_there = get-set_same cursors move.record.0 cursor rest is;
      begun = let b : move.first.0 ≤ cursor.told = begun-at in omega (arith, b, passed);
      goes = omega (arith, lt, passed);
      go_on = goes-all (λ place other one. GoesOn place (passed_after move place one) other moves)
          records cursors move.record.0 trace cursor rest there is
          (subst (λ (b : Bool). GoesOn move.record.0 (if b then move.end.0 else rest.told) trace moves)
          (sym (same_itself move.record.0)) go_own)
          (λ place other one apart there' is'. is_in.go_on place other one there' is');
    }

    -- the next move begins
    before-next : cursor.told + 1 ≡ move.end.0 → AreBefore records further moves
    before-next end = record {
      as_many = length-set cursors move.record.0 rest ∙ is_in.as_many;
      at = at-all;
      are_parts = is_in.are_parts;
      go_on = goes-all (λ place other one. GoesOn place one.told other moves)
          records cursors move.record.0 trace cursor rest there is
          (subst (λ (n : ℕ). GoesOn move.record.0 n trace moves) (sym (passed ∙ end)) go_own)
          (λ place other one apart there' is'.
          subst (λ (b : Bool). GoesOn place (if b then move.end.0 else one.told) other moves)
          (ne_eqb move.record.0 place (λ e. apart (sym e))) (is_in.go_on place other one there' is'));
    }

    pub on-the-way : (closes : Bool) → closes ≡ (cursor.told + 1 == move.end.0)
        → IsOnTheWay records further (if closes then moves else move ∷ moves)
    on-the-way true closes =
        opened records further moves (before-next (eqb-true (cursor.told + 1) move.end.0 (sym closes)))
    on-the-way false closes =
        inside (apart-lt cursor.told move.end.0 goes-at (eqb-false (cursor.told + 1) move.end.0 (sym closes)))

    abbrev step : Link → Bool → StepValue
    step link closes = step_of trace event link move.at (cursor.told - move.first.0) closes

    abbrev after : List Link → List Event → List StepValue
    after links es =
        steps_in trace move.at ((cursor.told - move.first.0) + 1) es links ++ steps records moves (drop (length es) links)

    one : (link : Link) (links : List Link)
        → left_of records cursors (move ∷ moves) (link ∷ links) ≡ step link (is_none more) ∷ after links more
    one link links =
        left-at records cursors move moves (link ∷ links) trace there cursor is
        ∙ ap (λ es. steps_in trace move.at (cursor.told - move.first.0) es (link ∷ links)
        ++ steps records moves (drop (length es) (link ∷ links))) range

    -- the event is passed
    pub passed-left : (link : Link) (links : List Link) (closes : Bool) → closes ≡ (cursor.told + 1 == move.end.0)
        → left_of records cursors (move ∷ moves) (link ∷ links)
        ≡ step link closes ∷ left_of records further (if closes then moves else move ∷ moves) links
    passed-left link links true closes =
        let end : cursor.told + 1 ≡ move.end.0 = eqb-true (cursor.told + 1) move.end.0 (sym closes) in
        let none : more ≡ [] = range-none trace.events (cursor.told + 1) move.end.0 (omega (arith, end)) in
        one link links ∙ ap (λ es. step link (is_none es) ∷ after links es) none
        ∙ ap (λ l. step link true ∷ l) (sym (opened-left records further moves links (before-next end)))
    passed-left link links false closes =
        let lt : cursor.told + 1 < move.end.0 =
        apart-lt cursor.told move.end.0 goes-at (eqb-false (cursor.told + 1) move.end.0 (sym closes)) in
        let some : is_none more ≡ false =
        none-some more (range-length trace.events (cursor.told + 1) move.end.0 lt end-within) in
        let b : move.first.0 ≤ cursor.told = begun-at in
        let e : (cursor.told + 1) - move.first.0 ≡ (cursor.told - move.first.0) + 1 = omega (arith, b) in
        let on : left_of records further (move ∷ moves) links ≡ after links more =
        left-at records further move moves links trace there rest (get-set_same cursors move.record.0 cursor rest is)
        ∙ ap (λ n. left_from records move moves links trace n) passed
        ∙ ap (λ n. steps_in trace move.at n more links ++ steps records moves (drop (length more) links)) e in
        one link links ∙ ap (λ b. step link b ∷ after links more) some ∙ ap (λ l. step link false ∷ l) (sym on)

-- ---- what the code reads

-- what `get` lends
pub item-read : {X : Type 0} (xs : List X) (i : ℕ) (x : Bor X) → IsItemAt xs i (Some x) → slice_get xs i ≡ Some x.now
item-read xs i x read = slice_get-get_or xs i x.now read.3.0 ∙ ap Some (sym (read.4 (omega arith) x.now))

pub IfNone-always : {X P : Type 0} (o : Option X) → P → IfNone o P
IfNone-always None p = p
IfNone-always (Some x) p = tt

module _ (records : List RecordValue) (cursors : List CursorValue) (all : List Move) (links : List Link)
    (on : IsOnTheWay records cursors all) (move : Move) (moves : List Move) (is_first : all ≡ move ∷ moves)
    (trace : RecordValue) (there : slice_get records move.record.0 ≡ Some trace) (cursor : CursorValue)
    (is : slice_get cursors move.record.0 ≡ Some cursor) where
  in_first : IsIn records cursors move moves
  in_first = subst (IsOnTheWay records cursors) is_first on

  -- where it is in the move
  pub within : (move.first.0 ≤ cursor.told) × (cursor.told < move.end.0)
  within = (
    begun-at records cursors move moves in_first trace there cursor is,
    goes-at records cursors move moves in_first trace there cursor is,
  )

  -- an event is left
  pub no_event : cursor.left ≡ [] → ⊥
  no_event = some-left records cursors move moves in_first trace there cursor is

  module _ (event : Event) (rest : CursorValue) (left : cursor.left ≡ event ∷ rest.left)
      (passed : rest.told ≡ cursor.told + 1) (number : rest.number ≡ cursor.number) (n : ℕ) (n_is : n ≡ cursor.told)
      (after : List Move) (after_is : after ≡ (if n + 1 == move.end.0 then moves else all)) where
    ends : (n + 1 == move.end.0) ≡ (cursor.told + 1 == move.end.0)
    ends = ap (λ k. k + 1 == move.end.0) n_is

    onward : after ≡ (if n + 1 == move.end.0 then moves else move ∷ moves)
    onward = after_is ∙ ap (λ (l : List Move). if n + 1 == move.end.0 then moves else l) is_first

    pub on-after : IsOnTheWay records (set cursors move.record.0 rest) after
    on-after =
        subst (IsOnTheWay records (set cursors move.record.0 rest)) (sym onward)
        (on-the-way records cursors move moves in_first trace there cursor is event rest left passed number
        (n + 1 == move.end.0) ends)

    pub left-after : (link : Link) (others : List Link) → links ≡ link ∷ others
        → left_of records cursors all links
        ≡ step_of trace event link move.at (n - move.first.0) (n + 1 == move.end.0)
        ∷ left_of records (set cursors move.record.0 rest) after others
    left-after link others links_are =
        (λ i. left_of records cursors (is_first i) (links_are i))
        ∙ passed-left records cursors move moves in_first trace there cursor is event rest left passed number link
        others (n + 1 == move.end.0) ends
        ∙ ap (λ (l : List Move). step_of trace event link move.at (cursor.told - move.first.0) (n + 1 == move.end.0)
        ∷ left_of records (set cursors move.record.0 rest) l others) (sym onward)
        ∙ ap (λ k. step_of trace event link move.at (k - move.first.0) (n + 1 == move.end.0)
        ∷ left_of records (set cursors move.record.0 rest) after others) (sym n_is)

-- without links nothing is left
pub unlinked : (records : List RecordValue) (cursors : List CursorValue) (all : List Move) (links : List Link)
    → length links ≡ 0 → left_of records cursors all links ≡ []
unlinked records cursors all links none =
    ap (left_of records cursors all) (nil_from_length links none) ∙ left-none records cursors all
