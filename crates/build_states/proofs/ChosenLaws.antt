-- The parts that belong to a state, by where its name stands.
use Rattle.std.proofs.Common.{◌≡◌, ◌∙◌, ◌+◌, ◌-◌, ◌≤◌, ◌==◌, ◌||◌, ℕ, ◌++◌, Bool, true, false, not, List, [], ◌∷◌, Some, ap, arith, drop, fold, if◌then◌else◌, length, refl, slice_get, subst, sym, take}
use Rattle.std.specs.List.{between, list_any}
use Rattle.std.specs.Str.{bytes_eq}
use Rattle.std.proofs.lemmas.Grind.{flat_map-append}
use Rattle.std.proofs.lemmas.List.{append_assoc, drop-append-le, length-append, length-drop}
use Rattle.std.proofs.lemmas.List.Elements.{filter-append}
use Rattle.std.proofs.lemmas.List.Sums.{fold-append}
use Rattle.sdl_tree.specs.Tree.{StateAll, StateList, States}
use Rattle.sdl_tree.specs.Words.{Spot}
use Rattle.build_states.specs.Reading.{Part}
use Rattle.build_states.specs.Outlined.{Cursor, Seen, chosen, ends_at, first_cursor, is_of, listed_part, nothing_seen, parts_at, seen_from, seen_in, turn_at, with_left, with_names, with_own, with_states, with_turn}
use Rattle.build_states.specs.Shared.{states_listed}
use Rattle.build_states.specs.States.{is_named, is_part_of, parts_of}
use Rattle.build_states.specs.declared.outline.Turn.{Turn}
use Rattle.build_states.proofs.AnswerLemmas.{append-nil}

-- ---- lists

take-whole : {A : Type 0} (xs ys : List A) → take (length xs) (xs ++ ys) ≡ xs
take-whole [] ys = refl
take-whole (x ∷ xs) ys = ap (λ zs. x ∷ zs) (take-whole xs ys)

drop-whole : {A : Type 0} (xs : List A) → drop (length xs) xs ≡ []
drop-whole [] = refl
drop-whole (x ∷ xs) = drop-whole xs

pub get-behind : {A : Type 0} (xs : List A) (x : A) (ys : List A) → slice_get (xs ++ x ∷ ys) (length xs) ≡ Some x
get-behind [] x ys = refl
get-behind (y ∷ xs) x ys = get-behind xs x ys

-- those up to the end of a list that others follow
between-end : {A : Type 0} (from : ℕ) (xs ys : List A) → from ≤ length xs →
    between from (length xs) (xs ++ ys) ≡ drop from xs
between-end from xs ys low =
    ap (take (length xs - from)) (drop-append-le from xs ys low)
    ∙ ap (λ n. take n (drop from xs ++ ys)) (sym (length-drop from xs))
    ∙ take-whole (drop from xs) ys

-- ---- names

last-pushed : (turns : List Turn) (turn : Turn) (part : ℕ) → ends_at (turns ++ turn ∷ []) part ≡ (turn.part == part)
last-pushed turns turn part =
    let same : length (turns ++ turn ∷ []) - 1 ≡ length turns = omega (arith, length-append turns (turn ∷ [])) in
    ap (λ n. is_of (slice_get (turns ++ turn ∷ []) n) part) same
    ∙ ap (λ found. is_of found part) (get-behind turns turn [])

same-either : {A : Type 0} (b : Bool) (x : A) → (if b then x else x) ≡ x
same-either true x = refl
same-either false x = refl

module _ (text : List ℕ) (turn : Turn) where
  names-known : (turns : List Turn) (names : List Spot) → ends_at turns turn.part ≡ true →
      with_names text turn turns names ≡ turns
  names-known turns [] known = refl
  names-known turns (name ∷ names) known =
      ap (λ ts. with_names text turn (if bytes_eq text name.text then ts else turns) names)
      (ap (λ b. if b then turns else turns ++ turn ∷ []) known)
      ∙ ap (λ ts. with_names text turn ts names) (same-either (bytes_eq text name.text) turns)
      ∙ names-known turns names known

  now-known : (turns : List Turn) → ends_at (turns ++ turn ∷ []) turn.part ≡ true
  now-known turns = last-pushed turns turn turn.part ∙ same turn.part
    where
      same : (n : ℕ) → (n == n) ≡ true
      same n = grind arith

  names-by : (turns : List Turn) (names : List Spot) (b : Bool) → ends_at turns turn.part ≡ false →
      (with_names text turn turns names ≡ (if list_any (λ name. bytes_eq text name.text) names then turns ++ turn ∷ [] else turns)) →
      with_names text turn (if b then with_turn turns turn else turns) names
      ≡ (if b || list_any (λ name. bytes_eq text name.text) names then turns ++ turn ∷ [] else turns)
  names-by turns names true new rest =
      ap (λ known. with_names text turn (if known then turns else turns ++ turn ∷ []) names) new
      ∙ names-known (turns ++ turn ∷ []) names (now-known turns)
  names-by turns names false new rest = rest

  names-new : (turns : List Turn) (names : List Spot) → ends_at turns turn.part ≡ false →
      with_names text turn turns names ≡ (if is_named names text then turns ++ turn ∷ [] else turns)
  names-new turns [] new = refl
  names-new turns (name ∷ names) new =
      names-by turns names (bytes_eq text name.text) new (names-new turns names new)

-- ---- parts

module _ (text : List ℕ) (all : List Part) where
  record Holds (seen : Seen) (done : List Part) : Type 0 where
    cursor : Cursor
    ahead : (more : List ℕ) → fold (with_own (seen.stars ++ more)) first_cursor seen.turns ≡ cursor
    low : cursor.from ≤ length seen.stars
    is : parts_at all (cursor.parts ++ drop cursor.from seen.stars) ≡ parts_of text done
    new : (n : ℕ) → length done ≤ n → ends_at seen.turns n ≡ false

  parts-more : (done : List Part) (part : Part) → parts_of text (done ++ part ∷ [])
      ≡ parts_of text done ++ (if is_part_of text part.states then part ∷ [] else [])
  parts-more done part = filter-append (λ part. is_part_of text part.states) done (part ∷ [])

  -- the part with this number
  at-more : (numbers : List ℕ) (done rest : List Part) (part : Part) → all ≡ done ++ part ∷ rest →
      parts_at all (numbers ++ length done ∷ []) ≡ parts_at all numbers ++ part ∷ []
  at-more numbers done rest part is =
      flat_map-append (λ number. listed_part (slice_get all number)) numbers (length done ∷ [])
      ∙ ap (λ found. parts_at all numbers ++ (listed_part found ++ []))
      (ap (λ list. slice_get list (length done)) is ∙ get-behind done part rest)

  module _ (seen : Seen) (done rest : List Part) (part : Part) (is : all ≡ done ++ part ∷ rest) (before : Holds seen done) where
    abbrev stars : List ℕ
    stars = seen.stars

    -- what stands in front of a later part stands in front of the next but one
    later : (n : ℕ) → length (done ++ part ∷ []) ≤ n → length done ≤ n
    later n h = omega (arith, length-append done (part ∷ []))

    still-new : (n : ℕ) → length (done ++ part ∷ []) ≤ n → ends_at seen.turns n ≡ false
    still-new n h = before.new n (later n h)

    newly : (turn : Turn) → turn.part ≡ length done → (n : ℕ) → length (done ++ part ∷ []) ≤ n →
        ends_at (seen.turns ++ turn ∷ []) n ≡ false
    newly turn at n h =
        last-pushed seen.turns turn n ∙ ap (λ k. k == n) at ∙ apart (length done) n below
      where
        below : length done + 1 ≤ n
        below = omega (arith, length-append done (part ∷ []))

        apart : (k n : ℕ) → k + 1 ≤ n → (k == n) ≡ false
        apart k n less = grind arith

    parts-same : is_part_of text part.states ≡ false → parts_of text (done ++ part ∷ []) ≡ parts_of text done
    parts-same isnt =
        parts-more done part ∙ ap (λ b. parts_of text done ++ (if b then part ∷ [] else [])) isnt
        ∙ append-nil (parts_of text done)

    parts-one : is_part_of text part.states ≡ true →
        parts_of text (done ++ part ∷ []) ≡ parts_of text done ++ part ∷ []
    parts-one yea = parts-more done part ∙ ap (λ b. parts_of text done ++ (if b then part ∷ [] else [])) yea

    -- up to this part
    abbrev up_to : List ℕ
    up_to = before.cursor.parts ++ drop before.cursor.from stars

    abbrev own : Turn → Cursor
    own turn = record { from = turn.from; parts = up_to ++ (if turn.is_left_out then [] else turn.part ∷ []) }

    ahead-turn : (turn : Turn) → turn.until ≡ length stars → (more : List ℕ) →
        fold (with_own (stars ++ more)) first_cursor (seen.turns ++ turn ∷ []) ≡ own turn
    ahead-turn turn until more =
        fold-append (with_own (stars ++ more)) first_cursor seen.turns (turn ∷ [])
        ∙ ap (λ cursor. with_own (stars ++ more) cursor turn) (before.ahead more)
        ∙ ap (λ list. record { from = turn.from; parts = (before.cursor.parts ++ list) ++ (if turn.is_left_out then [] else turn.part ∷ []) })
        (ap (λ n. between before.cursor.from n (stars ++ more)) until
        ∙ between-end before.cursor.from stars more before.low)

    ahead-star : (more : List ℕ) →
        fold (with_own ((stars ++ length done ∷ []) ++ more)) first_cursor seen.turns ≡ before.cursor
    ahead-star more =
        ap (λ list. fold (with_own list) first_cursor seen.turns) (append_assoc stars (length done ∷ []) more)
        ∙ before.ahead (length done ∷ more)

    -- a part that doesn't name the state
    passed : is_part_of text part.states ≡ false → Holds seen (done ++ part ∷ [])
    passed isnt = record {
      cursor = before.cursor;
      ahead = before.ahead;
      low = before.low;
      is = before.is ∙ sym (parts-same isnt);
      new = still-new;
    }

    -- one that names it
    named : is_part_of text part.states ≡ true → (turn : Turn) → turn.part ≡ length done → turn.is_left_out ≡ false →
        turn.until ≡ length stars → turn.from ≡ length stars →
        Holds (record { stars = stars; turns = seen.turns ++ turn ∷ [] }) (done ++ part ∷ [])
    named yea turn at stays until from = record {
      cursor = own turn;
      ahead = ahead-turn turn until;
      low = subst (λ n. n ≤ length stars) (sym from) (reached (length stars));
      is =
          ap (λ b. parts_at all ((up_to ++ (if b then [] else turn.part ∷ [])) ++ drop turn.from stars)) stays
          ∙ ap (λ n. parts_at all ((up_to ++ turn.part ∷ []) ++ drop n stars)) from
          ∙ ap (λ list. parts_at all ((up_to ++ turn.part ∷ []) ++ list)) (drop-whole stars)
          ∙ ap (parts_at all) (append-nil (up_to ++ turn.part ∷ []))
          ∙ ap (λ n. parts_at all (up_to ++ n ∷ [])) at
          ∙ at-more up_to done rest part is
          ∙ ap (λ parts. parts ++ part ∷ []) before.is
          ∙ sym (parts-one yea);
      new = newly turn at;
    }
      where
        reached : (n : ℕ) → n ≤ n
        reached n = omega arith

    -- one with an asterisk
    starred : is_part_of text part.states ≡ true →
        Holds (record { stars = stars ++ length done ∷ []; turns = seen.turns }) (done ++ part ∷ [])
    starred yea = record {
      cursor = before.cursor;
      ahead = ahead-star;
      low = omega (arith, length-append stars (length done ∷ []), before.low);
      is =
          ap (λ list. parts_at all (before.cursor.parts ++ list))
          (drop-append-le before.cursor.from stars (length done ∷ []) before.low)
          ∙ ap (parts_at all) (sym (append_assoc before.cursor.parts (drop before.cursor.from stars) (length done ∷ [])))
          ∙ at-more up_to done rest part is
          ∙ ap (λ parts. parts ++ part ∷ []) before.is
          ∙ sym (parts-one yea);
      new = still-new;
    }

    -- one whose asterisk leaves it out
    left_out : is_part_of text part.states ≡ false → (turn : Turn) → turn.part ≡ length done → turn.is_left_out ≡ true →
        turn.until ≡ length stars → turn.from ≡ length (stars ++ length done ∷ []) →
        Holds (record { stars = stars ++ length done ∷ []; turns = seen.turns ++ turn ∷ [] }) (done ++ part ∷ [])
    left_out isnt turn at goes until from = record {
      cursor = own turn;
      ahead = λ more.
          ap (λ list. fold (with_own list) first_cursor (seen.turns ++ turn ∷ []))
          (append_assoc stars (length done ∷ []) more)
          ∙ ahead-turn turn until (length done ∷ more);
      low = subst (λ n. n ≤ length (stars ++ length done ∷ [])) (sym from) (reached (length (stars ++ length done ∷ [])));
      is =
          ap (λ b. parts_at all ((up_to ++ (if b then [] else turn.part ∷ [])) ++ drop turn.from (stars ++ length done ∷ []))) goes
          ∙ ap (λ n. parts_at all ((up_to ++ []) ++ drop n (stars ++ length done ∷ []))) from
          ∙ ap (λ list. parts_at all ((up_to ++ []) ++ list)) (drop-whole (stars ++ length done ∷ []))
          ∙ ap (parts_at all) (append-nil (up_to ++ []) ∙ append-nil up_to)
          ∙ before.is
          ∙ sym (parts-same isnt);
      new = newly turn at;
    }
      where
        reached : (n : ℕ) → n ≤ n
        reached n = omega arith

    abbrev Next : Seen → Type 0
    Next next = Holds next (done ++ part ∷ [])

    named-by : (names : List Spot) (b : Bool) → is_named names text ≡ b →
        (is_part_of text part.states ≡ is_named names text) → (turn : Turn) → turn.part ≡ length done →
        turn.is_left_out ≡ false → turn.until ≡ length stars → turn.from ≡ length stars →
        Next (record { stars = stars; turns = if b then seen.turns ++ turn ∷ [] else seen.turns })
    named-by names true said same turn at stays until from = named (same ∙ said) turn at stays until from
    named-by names false said same turn at stays until from = passed (same ∙ said)

    starred-by : (names : List Spot) (b : Bool) → is_named names text ≡ b →
        (is_part_of text part.states ≡ not (is_named names text)) → (turn : Turn) → turn.part ≡ length done →
        turn.is_left_out ≡ true → turn.until ≡ length stars → turn.from ≡ length (stars ++ length done ∷ []) →
        Next (record { stars = stars ++ length done ∷ []; turns = if b then seen.turns ++ turn ∷ [] else seen.turns })
    starred-by names true said same turn at goes until from =
        left_out (same ∙ ap not said) turn at goes until from
    starred-by names false said same turn at goes until from = starred (same ∙ ap not said)

    here-new : ends_at seen.turns (length done) ≡ false
    here-new = before.new (length done) (omega arith)

    next-by : (states : States) → part.states ≡ states → Next (with_states text (length done) seen states)
    next-by (StateList names) form =
        let turn = turn_at stars (length done) (StateList names) in
        subst (λ turns. Next (record { stars = stars; turns = turns }))
        (sym (names-new text turn seen.turns names here-new))
        (named-by names (is_named names text) refl (ap (is_part_of text) form) turn refl refl refl refl)
    next-by (StateAll asterisk names) form =
        let turn = turn_at stars (length done) (StateAll asterisk names) in
        subst (λ turns. Next (record { stars = stars ++ length done ∷ []; turns = turns }))
        (sym (names-new text turn seen.turns names here-new))
        (starred-by names (is_named names text) refl (ap (is_part_of text) form) turn refl refl refl refl)

  holds-all : (seen : Seen) (done rest : List Part) (number : ℕ) → number ≡ length done → all ≡ done ++ rest →
      Holds seen done → Holds (seen_from text number seen (states_listed rest)) all
  holds-all seen done [] number at is before = subst (Holds seen) (sym (is ∙ append-nil done)) before
  holds-all seen done (part ∷ rest) number at is before =
      let next : number + 1 ≡ length (done ++ part ∷ []) = omega (arith, at, length-append done (part ∷ [])) in
      holds-all (with_states text number seen part.states) (done ++ part ∷ []) rest (number + 1) next
      (is ∙ sym (append_assoc done (part ∷ []) rest))
      (subst (λ n. Holds (with_states text n seen part.states) (done ++ part ∷ [])) (sym at)
      (next-by seen done rest part is before part.states refl))

  nothing-holds : Holds nothing_seen []
  nothing-holds = record {
    cursor = first_cursor;
    ahead = λ more. refl;
    low = omega arith;
    is = refl;
    new = λ n h. refl;
  }

-- the parts that are found are those that belong to the state
pub chosen-parts : (text : List ℕ) (parts : List Part) →
    parts_at parts (chosen (seen_in text (states_listed parts))) ≡ parts_of text parts
chosen-parts text parts =
    let seen = seen_in text (states_listed parts) in
    let held = holds-all text parts nothing_seen [] parts 0 refl refl (nothing-holds text parts) in
    let reached : fold (with_own seen.stars) first_cursor seen.turns ≡ held.cursor =
    ap (λ list. fold (with_own list) first_cursor seen.turns) (sym (append-nil seen.stars)) ∙ held.ahead [] in
    ap (λ cursor. parts_at parts (with_left seen.stars cursor)) reached
    ∙ ap (λ list. parts_at parts (held.cursor.parts ++ list))
    (ap (between held.cursor.from (length seen.stars)) (sym (append-nil seen.stars))
    ∙ between-end held.cursor.from seen.stars [] held.low)
    ∙ held.is
