-- A walk before its moves.
use Rattle.std.proofs.Common.{◌≡◌, ℕ, zero, suc, ◌-◌, ◌<◌, ◌≤◌, ◌==◌, Bool, true, false, List, [], ◌∷◌, ◌++◌, length, map, take, drop, slice_get, Option, Some, refl, sym, ◌∙◌, ap, subst, arith, if◌then◌else◌}
use Rattle.std.specs.List.{AllByRecursion}
use Rattle.std.specs.Option.{option_map_or}
use Rattle.std.proofs.lemmas.Bool.{eq-eqb, eqb-true}
use Rattle.std.proofs.lemmas.List.{length-map, take_all}
use Rattle.run_record.specs.Event.{Event}
use Rattle.run_record.specs.Record.{RecordValue}
use Rattle.view_timeline.specs.Cursor.{CursorValue, IsAt}
use Rattle.view_timeline.specs.Moves.{GoOn, IsOfOne, IsPart, events_in, moves_of}
use Rattle.view_timeline.specs.Timeline.{AreBegun, IsBegun}
use Rattle.view_timeline.specs.declared.moves.Link.{Link}
use Rattle.view_timeline.specs.declared.moves.Move.{Move}
use Rattle.view_timeline.specs.declared.moves.Timeline.{Timeline}
use Rattle.view_text.specs.Walk.{GoesOn, IsIn, IsOnTheWay, StepValue, all_steps, left_from, left_in, left_of, passed_after, steps, steps_in}
use Rattle.view_text.proofs.Ranges.{get-both, map_or-same, range-within}

-- ---- without links

in-none : (trace : RecordValue) (at : Option ℕ) (place : ℕ) (events : List Event)
    → steps_in trace at place events [] ≡ []
in-none trace at place [] = refl
in-none trace at place (event ∷ more) = refl

links-none : (n : ℕ) → ◌≡◌ {A = List Link} (drop n []) []
links-none zero = refl
links-none (suc n) = refl

abbrev first-none : Move → RecordValue → List StepValue
first-none move trace = steps_in trace move.at 0 (events_in trace move) []

abbrev after-none : Move → RecordValue → List Link
after-none move trace = drop (length (events_in trace move)) []

steps-none : (records : List RecordValue) (moves : List Move) → steps records moves [] ≡ []
steps-none records [] = refl
steps-none records (move ∷ moves) =
    let first : option_map_or (first-none move) (slice_get records move.record.0) [] ≡ [] =
    map_or-same (first-none move) [] (λ trace. in-none trace move.at 0 (events_in trace move))
    (slice_get records move.record.0) in
    let after : option_map_or (after-none move) (slice_get records move.record.0) [] ≡ [] =
    map_or-same (after-none move) [] (λ trace. links-none (length (events_in trace move)))
    (slice_get records move.record.0) in
    (λ i. first i ++ steps records moves (after i)) ∙ steps-none records moves

-- nothing is left if there are no links
pub left-none : (records : List RecordValue) (cursors : List CursorValue) (moves : List Move)
    → left_of records cursors moves [] ≡ []
left-none records cursors [] = refl
left-none records cursors (move ∷ moves) =
    map_or-same (λ (trace : RecordValue). option_map_or
    (λ (cursor : CursorValue). left_from records move moves [] trace cursor.told)
    (slice_get cursors move.record.0) []) []
    (λ trace. map_or-same (λ (cursor : CursorValue). left_from records move moves [] trace cursor.told) []
    (λ cursor. none trace cursor.told) (slice_get cursors move.record.0)) (slice_get records move.record.0)
  where
    none : (trace : RecordValue) (passed : ℕ) → left_from records move moves [] trace passed ≡ []
    none trace passed =
        let first = in-none trace move.at (passed - move.first.0) (left_in trace passed move) in
        let after = links-none (length (left_in trace passed move)) in
        (λ i. first i ++ steps records moves (after i)) ∙ steps-none records moves

-- ---- moves

pub same_itself : (n : ℕ) → (n == n) ≡ true
same_itself n = eq-eqb n n refl

part-some : (events : List Event) → IsOfOne events → 0 < length events
part-some [] none = absurd none
part-some (event ∷ more) all = omega arith

-- a move has events of its record
pub move-within : (records : List RecordValue) (move : Move) (trace : RecordValue) → IsPart records move
    → slice_get records move.record.0 ≡ Some trace → (move.first.0 < move.end.0) × (move.first.0 < length trace.events)
move-within records move trace is there =
    let same : Some is.trace ≡ Some trace = sym is.is_there ∙ there in
    let t : is.trace ≡ trace = cc in
    range-within trace.events move.first.0 move.end.0
    (part-some (events_in trace move)
    (subst (λ (r : RecordValue). IsOfOne (events_in r move)) t is.of_one))

-- where moves go on is within the record
pub goes-within : (records : List RecordValue) (moves : List Move) (place passed : ℕ) (trace : RecordValue)
    → AllByRecursion (IsPart records) moves → slice_get records place ≡ Some trace → (end : ℕ)
    → GoOn passed (moves_of place moves) end → end ≤ length trace.events → passed ≤ length trace.events
goes-within records [] place passed trace all there end whole le =
    let same : passed ≡ end = whole in omega (arith, same, le)
goes-within records (move ∷ moves) place passed trace all there end whole le =
    by (move.record.0 == place) refl whole (λ w. goes-within records moves place passed trace all.1 there end w le)
  where
    by : (b : Bool) → (move.record.0 == place) ≡ b
        → GoOn passed (if b then move ∷ moves_of place moves else moves_of place moves) end
        → (GoOn passed (moves_of place moves) end → passed ≤ length trace.events)
        → passed ≤ length trace.events
    by true own w more =
        let e : move.record.0 ≡ place = eqb-true move.record.0 place own in
        let here = move-within records move trace all.0 (ap (slice_get records) e ∙ there) in
        let first : move.first.0 ≡ passed = w.0 in
        let lt : move.first.0 < length trace.events = here.1 in
        omega (arith, first, lt)
    by false other w more = more w

-- the moves after one
pub goes-past : (place : ℕ) (trace : RecordValue) (move : Move) (moves : List Move) (cursor : CursorValue)
    → GoesOn place cursor.told trace (move ∷ moves) → GoesOn place (passed_after move place cursor) trace moves
goes-past place trace move moves cursor goes = record {
  end = goes.end;
  within = goes.within;
  whole = by (move.record.0 == place) goes.whole;
}
  where
    by : (b : Bool) → GoOn cursor.told (if b then move ∷ moves_of place moves else moves_of place moves) goes.end
        → GoOn (if b then move.end.0 else cursor.told) (moves_of place moves) goes.end
    by true w = w.1
    by false w = w

goes-first : (move : Move) (moves : List Move) (passed end : ℕ)
    → GoOn passed (moves_of move.record.0 (move ∷ moves)) end → move.first.0 ≡ passed
goes-first move moves passed end whole =
    let own : List Move = moves_of move.record.0 moves in
    let w : GoOn passed (move ∷ own) end =
    subst (λ (b : Bool). GoOn passed (if b then move ∷ own else own) end) (same_itself move.record.0) whole in
    w.0

-- ---- before the first of the moves

pub record AreBefore (records : List RecordValue) (cursors : List CursorValue) (moves : List Move) : Type 0 where
  pub as_many : length cursors ≡ length records
  pub at : (place : ℕ) (trace : RecordValue) (cursor : CursorValue) → slice_get records place ≡ Some trace
      → slice_get cursors place ≡ Some cursor → IsAt trace cursor
  pub are_parts : AllByRecursion (IsPart records) moves
  pub go_on : (place : ℕ) (trace : RecordValue) (cursor : CursorValue) → slice_get records place ≡ Some trace
      → slice_get cursors place ≡ Some cursor → GoesOn place cursor.told trace moves

module _ (records : List RecordValue) (cursors : List CursorValue) (move : Move) (moves : List Move)
    (links : List Link) (trace : RecordValue) (there : slice_get records move.record.0 ≡ Some trace) where
  -- what is left of it and after it
  pub left-at : (cursor : CursorValue) → slice_get cursors move.record.0 ≡ Some cursor
      → left_of records cursors (move ∷ moves) links ≡ left_from records move moves links trace cursor.told
  left-at cursor is =
      ap (λ o. option_map_or (λ (t : RecordValue). option_map_or
      (λ (c : CursorValue). left_from records move moves links t c.told) (slice_get cursors move.record.0) []) o [])
      there
      ∙ ap (λ o. option_map_or (λ (c : CursorValue). left_from records move moves links trace c.told) o []) is

  pub steps-at : steps records (move ∷ moves) links
      ≡ steps_in trace move.at 0 (events_in trace move) links
      ++ steps records moves (drop (length (events_in trace move)) links)
  steps-at =
      ap (λ o. option_map_or (λ (t : RecordValue). steps_in t move.at 0 (events_in t move) links) o []
      ++ steps records moves (option_map_or (λ (t : RecordValue). drop (length (events_in t move)) links) o links))
      there

  pub left-first : (passed : ℕ) → move.first.0 ≡ passed
      → left_from records move moves links trace passed ≡ steps records (move ∷ moves) links
  left-first passed first =
      let none : move.first.0 - move.first.0 ≡ 0 = omega arith in
      ap (λ n. left_from records move moves links trace n) (sym first)
      ∙ ap (λ n. steps_in trace move.at n (events_in trace move) links
      ++ steps records moves (drop (length (events_in trace move)) links)) none
      ∙ sym steps-at

opened-in : (records : List RecordValue) (cursors : List CursorValue) (move : Move) (moves : List Move)
    → AreBefore records cursors (move ∷ moves) → IsIn records cursors move moves
opened-in records cursors move moves before =
    let own : IsPart records move = before.are_parts.0 in
    let c = get-both records cursors (sym before.as_many) move.record.0 own.trace own.is_there in
    let goes = before.go_on move.record.0 own.trace c.0 own.is_there c.1 in
    let first : move.first.0 ≡ c.0.told = goes-first move moves c.0.told goes.end goes.whole in
    let within = move-within records move own.trace own own.is_there in
    let lt : move.first.0 < move.end.0 = within.0 in
    record {
      as_many = before.as_many;
      at = before.at;
      is_part = own;
      are_parts = before.are_parts.1;
      cursor = c.0;
      is_there = c.1;
      begun = omega (arith, first);
      goes = omega (arith, first, lt);
      go_on = λ place trace cursor there is.
          goes-past place trace move moves cursor (before.go_on place trace cursor there is);
    }

pub opened : (records : List RecordValue) (cursors : List CursorValue) (moves : List Move)
    → AreBefore records cursors moves → IsOnTheWay records cursors moves
opened records cursors [] before = tt
opened records cursors (move ∷ moves) before = opened-in records cursors move moves before

-- all that is left are the steps of the moves
pub opened-left : (records : List RecordValue) (cursors : List CursorValue) (moves : List Move) (links : List Link)
    → AreBefore records cursors moves → left_of records cursors moves links ≡ steps records moves links
opened-left records cursors [] links before = refl
opened-left records cursors (move ∷ moves) links before =
    let own : IsPart records move = before.are_parts.0 in
    let c = get-both records cursors (sym before.as_many) move.record.0 own.trace own.is_there in
    let goes = before.go_on move.record.0 own.trace c.0 own.is_there c.1 in
    left-at records cursors move moves links own.trace own.is_there c.0 c.1
    ∙ left-first records cursors move moves links own.trace own.is_there c.0.told
    (goes-first move moves c.0.told goes.end goes.whole)

-- ---- at the start

-- the cursor of a record of which nothing is passed
abbrev pub fresh : RecordValue → CursorValue
fresh trace = record { number = trace.pid; told = 0; left = trace.events }

get-map : {A B : Type 0} (f : A → B) (xs : List A) (k : ℕ) (x : A) → slice_get xs k ≡ Some x
    → slice_get (map f xs) k ≡ Some (f x)
get-map f [] k x is = let no : ⊥ = cc in absurd no
get-map f (a ∷ xs) zero x is = let e : a ≡ x = cc in ap (λ y. Some (f y)) e
get-map f (a ∷ xs) (suc k) x is = get-map f xs k x is

fresh-is : (records : List RecordValue) (place : ℕ) (trace : RecordValue) (cursor : CursorValue)
    → slice_get records place ≡ Some trace → slice_get (map fresh records) place ≡ Some cursor → fresh trace ≡ cursor
fresh-is records place trace cursor there is =
    let e : Some (fresh trace) ≡ Some cursor = sym (get-map fresh records place trace there) ∙ is in cc

pub before-all : (records : List RecordValue) (told : Timeline) → AllByRecursion (IsPart records) told.moves.items
    → AreBegun records told → AreBefore records (map fresh records) told.moves.items
before-all records told all begun = record {
  as_many = length-map records fresh;
  at = λ place trace cursor there is.
      subst (λ (c : CursorValue). IsAt trace c) (fresh-is records place trace cursor there is)
      (record { number = refl; first = []; all = refl; told = refl });
  are_parts = all;
  go_on = λ place trace cursor there is.
      let b : IsBegun trace place told = begun place trace there in
      subst (λ (c : CursorValue). GoesOn place c.told trace told.moves.items)
      (fresh-is records place trace cursor there is)
      (record { end = b.end; within = b.within; whole = b.whole });
}

-- the cursors of all records
pub fresh-all : (records items : List RecordValue) (cursors : List CursorValue) (n : ℕ) → items ≡ records
    → length items ≤ n → cursors ≡ map fresh (take n items) → cursors ≡ map fresh records
fresh-all records items cursors n same past so_far =
    so_far ∙ ap (map fresh) (take_all n items past) ∙ ap (map fresh) same

module _ (records : List RecordValue) (told : Timeline) (all : AllByRecursion (IsPart records) told.moves.items)
    (begun : AreBegun records told) (rs : List RecordValue) (cs : List CursorValue) (ms : List Move)
    (rs_are : rs ≡ records) (cs_are : cs ≡ map fresh records) (ms_are : ms ≡ told.moves.items) where
  pub started : IsOnTheWay rs cs ms
  started =
      subst (λ (m : List Move). IsOnTheWay rs cs m) (sym ms_are)
      (subst (λ (c : List CursorValue). IsOnTheWay rs c told.moves.items) (sym cs_are)
      (subst (λ (r : List RecordValue). IsOnTheWay r (map fresh records) told.moves.items) (sym rs_are)
      (opened records (map fresh records) told.moves.items (before-all records told all begun))))

  pub started-left : (ls : List Link) → ls ≡ told.links.items → left_of rs cs ms ls ≡ all_steps records told
  started-left ls ls_are =
      (λ i. left_of (rs_are i) (cs_are i) (ms_are i) (ls_are i))
      ∙ opened-left records (map fresh records) told.moves.items told.links.items (before-all records told all begun)
