-- The parts that are told, once one event more is.
use Rattle.std.proofs.Common.{◌≡◌, ◌⊎◌, inl, inr, ℕ, ◌+◌, ◌-◌, ◌<◌, ◌==◌, true, false, List, [], ◌∷◌, ◌++◌, length, length-append, map, take, drop, get_or, set, slice_get, None, Some, refl, sym, ◌∙◌, ap, subst, arith, append_assoc, eq-eqb, if◌then◌else◌}
use Rattle.std.specs.List.{AllByRecursion}
use Rattle.std.specs.Option.{option_map_or}
use Rattle.std.specs.Prelude.{slice_range}
use Rattle.std.proofs.lemmas.Bool.{false_from_ne_true, eqb-true}
use Rattle.std.proofs.lemmas.Option.{slice_get-get_or}
use Rattle.std.proofs.lemmas.List.{length-drop, length-take, length-take-le, length_push, map-append, take-append-drop, take_all, take_more}
use Rattle.run_record.specs.Event.{Event}
use Rattle.run_record.specs.Record.{RecordValue}
use Rattle.view_timeline.specs.Events.{EndsElsewhere, Grows, Lengthens, longer, made_longer, one_more}
use Rattle.view_timeline.specs.Parts.{AreLongest, AreLongestAfter, IsOpening}
use Rattle.view_timeline.proofs.Gathering.{all-append, all-left, all-right, set-middle}
use Rattle.view_timeline.proofs.MoveLemmas.{began-next, flat_map-last, get-middle, go_on-last, moves_of-other, moves_of-own, range-middle}
use Rattle.view_timeline.specs.Did.{begins, did, time_of}
use Rattle.view_timeline.specs.Moves.{GoOn, IsOfOne, IsPart, began, began_at, done_by, done_in, events_in, moves_of}
use Rattle.view_timeline.specs.declared.moves.Move.{Move}

-- ---- lists

-- a range with something in it
range-some : {A : Type 0} (xs : List A) (from to : ℕ) → 0 < length (slice_range xs from to) → from < to
range-some xs from to some =
    let t = length-take (to - from) (drop from xs) in
    let d = length-drop from xs in
    omega (arith, some, t, d)

-- ---- one part

of_one-some : (events : List Event) → IsOfOne events → 0 < length events
of_one-some [] none = absurd none
of_one-some (event ∷ rest) all = omega arith

of_one-longer : (events : List Event) (next : Event) → IsOfOne events → begins next ≡ false
    → IsOfOne (events ++ next ∷ [])
of_one-longer [] next none goes_on = absurd none
of_one-longer (event ∷ rest) next all goes_on =
    all-append (λ (one : Event). begins one ≡ false) rest (next ∷ []) all (goes_on, tt)

done-in : (records : List RecordValue) (move : Move) (trace : RecordValue)
    → slice_get records move.record.0 ≡ Some trace → done_in records move ≡ map (did trace.pid) (events_in trace move)
done-in records move trace there =
    ap (λ o. option_map_or (λ (one : RecordValue). map (did one.pid) (events_in one move)) o []) there

-- the last one ends where they end
go_on-end : (from : ℕ) (moves : List Move) (end : ℕ) (last : Move) → GoOn from (moves ++ last ∷ []) end
    → last.end.0 ≡ end
go_on-end from [] end last goes = goes.1
go_on-end from (a ∷ moves) end last goes = go_on-end a.end.0 moves end last goes.1

-- with another end in place of the last one
go_on-longer : (from : ℕ) (moves : List Move) (end : ℕ) (last other : Move) → GoOn from (moves ++ last ∷ []) end
    → other.first.0 ≡ last.first.0 → GoOn from (moves ++ other ∷ []) other.end.0
go_on-longer from [] end last other goes same = (same ∙ goes.0, refl)
go_on-longer from (a ∷ moves) end last other goes same =
    (goes.0, go_on-longer a.end.0 moves end last other goes.1 same)

-- ---- as (longer last part) as they can be

longer-after : (records : List RecordValue) (one : Move) (before : List Move) (last other : Move)
    → AreLongestAfter records one (before ++ last ∷ []) → other.record.0 ≡ last.record.0
    → (IsOpening records last → IsOpening records other) → AreLongestAfter records one (before ++ other ∷ [])
longer-after records one [] last other all same so = (λ is. so (all.0 (is ∙ same)), tt)
longer-after records one (a ∷ before) last other all same so =
    (all.0, longer-after records a before last other all.1 same so)

-- with another one in place of the last, which begins as that does
longest-longer : (records : List RecordValue) (before : List Move) (last other : Move)
    → AreLongest records (before ++ last ∷ []) → other.record.0 ≡ last.record.0
    → (IsOpening records last → IsOpening records other) → AreLongest records (before ++ other ∷ [])
longest-longer records [] last other all same so = tt
longest-longer records (a ∷ before) last other all same so = longer-after records a before last other all same so

more-after : (records : List RecordValue) (one : Move) (moves : List Move) (part : Move)
    → AreLongestAfter records one moves
    → ((before : List Move) (last : Move) → one ∷ moves ≡ before ++ last ∷ [] → last.record.0 ≡ part.record.0
    → IsOpening records part) → AreLongestAfter records one (moves ++ part ∷ [])
more-after records one [] part all so = (so [] one refl, tt)
more-after records one (a ∷ moves) part all so =
    (all.0, more-after records a moves part all.1 (λ before last is. so (one ∷ before) last (ap (λ l. one ∷ l) is)))

-- with one more, which goes on with none
longest-more : (records : List RecordValue) (moves : List Move) (part : Move) → AreLongest records moves
    → ((before : List Move) (last : Move) → moves ≡ before ++ last ∷ [] → last.record.0 ≡ part.record.0
    → IsOpening records part) → AreLongest records (moves ++ part ∷ [])
longest-more records [] part all so = tt
longest-more records (a ∷ moves) part all so = more-after records a moves part all so

-- ---- all parts

-- the next event of a record is told as a part
pub record IsNextPart (records : List RecordValue) (part : Move) (event : Event) : Type 0 where
  pub trace : RecordValue
  pub there : slice_get records part.record.0 ≡ Some trace
  pub first : List Event
  pub rest : List Event
  pub all : trace.events ≡ first ++ event ∷ rest
  pub told : length first ≡ part.first.0
  pub end : part.end.0 ≡ part.first.0 + 1
  pub at : part.at ≡ (if begins event then time_of event else began None first)

module _ (records : List RecordValue) (part : Move) (event : Event) (next : IsNextPart records part event) where
  -- ---- a part of its own

  events-own : events_in next.trace part ≡ event ∷ []
  events-own =
      let end = next.end in
      range-middle next.trace.events next.first (event ∷ []) next.rest part.first.0 part.end.0 next.all next.told
      (omega (arith, end))

  part-own : IsPart records part
  part-own = record {
    trace = next.trace;
    is_there = next.there;
    of_one = subst IsOfOne (sym events-own) tt;
    at = next.at
        ∙ sym (began-next next.trace next.first event next.rest part.first.0 next.all next.told);
  }

  done-own : done_in records part ≡ did next.trace.pid event ∷ []
  done-own = done-in records part next.trace next.there ∙ ap (map (did next.trace.pid)) events-own

  -- ---- a longer one

  module _ (last : Move) (is_part : IsPart records last) (same : last.record.0 ≡ part.record.0)
      (meets : last.end.0 ≡ part.first.0) (goes_on : begins event ≡ false) where
    same-trace : is_part.trace ≡ next.trace
    same-trace =
        let e : Some is_part.trace ≡ Some next.trace =
        sym is_part.is_there ∙ ap (slice_get records) same ∙ next.there in
        cc

    there : slice_get records last.record.0 ≡ Some next.trace
    there = is_part.is_there ∙ ap Some same-trace

    of_one : IsOfOne (events_in next.trace last)
    of_one = subst (λ (t : RecordValue). IsOfOne (events_in t last)) same-trace is_part.of_one

    within : last.first.0 < last.end.0
    within =
        range-some next.trace.events last.first.0 last.end.0 (of_one-some (events_in next.trace last) of_one)

    abbrev head : List Event
    head = take last.first.0 next.first

    abbrev own : List Event
    own = drop last.first.0 next.first

    parted : head ++ own ≡ next.first
    parted = take-append-drop last.first.0 next.first

    head-length : length head ≡ last.first.0
    head-length =
        let lt : last.first.0 < last.end.0 = within in
        let m : last.end.0 ≡ part.first.0 = meets in
        let t : length next.first ≡ part.first.0 = next.told in
        length-take-le last.first.0 next.first (omega (arith, lt, m, t))

    own-length : last.end.0 ≡ last.first.0 + length own
    own-length =
        let h : length head ≡ last.first.0 = head-length in
        let m : last.end.0 ≡ part.first.0 = meets in
        let t : length next.first ≡ part.first.0 = next.told in
        let many : length (head ++ own) ≡ length head + length own = length-append head own in
        let all : length (head ++ own) ≡ length next.first = ap length parted in
        omega (arith, h, m, t, many, all)

    events-last : events_in next.trace last ≡ own
    events-last =
        range-middle next.trace.events head own (event ∷ next.rest) last.first.0 last.end.0
        (next.all ∙ ap (λ (l : List Event). l ++ event ∷ next.rest) (sym parted)
        ∙ append_assoc head own (event ∷ next.rest)) head-length own-length

    events-long : events_in next.trace (longer last part) ≡ own ++ event ∷ []
    events-long =
        let o : last.end.0 ≡ last.first.0 + length own = own-length in
        let m : last.end.0 ≡ part.first.0 = meets in
        let e : part.end.0 ≡ part.first.0 + 1 = next.end in
        let many : length (own ++ event ∷ []) ≡ length own + 1 = length-append own (event ∷ []) in
        range-middle next.trace.events head (own ++ event ∷ []) next.rest last.first.0 part.end.0
        (next.all ∙ ap (λ (l : List Event). l ++ event ∷ next.rest) (sym parted)
        ∙ append_assoc head own (event ∷ next.rest)
        ∙ ap (λ (l : List Event). head ++ l) (sym (append_assoc own (event ∷ []) next.rest))) head-length
        (omega (arith, o, m, e, many))

    part-long : IsPart records (longer last part)
    part-long = record {
      trace = next.trace;
      is_there = there;
      of_one = subst IsOfOne (sym events-long)
          (of_one-longer own event (subst IsOfOne events-last of_one) goes_on);
      at = subst (λ (t : RecordValue). last.at ≡ began_at t last.first.0) same-trace is_part.at;
    }

    done-long : done_in records (longer last part) ≡ done_in records last ++ did next.trace.pid event ∷ []
    done-long =
        done-in records (longer last part) next.trace there
        ∙ ap (map (did next.trace.pid)) events-long
        ∙ map-append (did next.trace.pid) own (event ∷ [])
        ∙ ap (λ (l : List Event). map (did next.trace.pid) l ++ did next.trace.pid event ∷ []) (sym events-last)
        ∙ ap (λ l. l ++ did next.trace.pid event ∷ []) (sym (done-in records last next.trace there))

  -- ---- all of them

  module _ (old new : List Move) (parts : AllByRecursion (IsPart records) old)
      (goes : GoOn 0 (moves_of part.record.0 old) part.first.0) where
    module _ (is : Lengthens old new part) where
      all-of : AllByRecursion (IsPart records) (is.before ++ is.last ∷ [])
      all-of = subst (AllByRecursion (IsPart records)) is.was parts

      last-part : IsPart records is.last
      last-part = (all-right (IsPart records) is.before (is.last ∷ []) all-of).0

      own-with : (m : Move) → m.record.0 ≡ part.record.0
          → moves_of part.record.0 (is.before ++ m ∷ []) ≡ moves_of part.record.0 is.before ++ m ∷ []
      own-with m same = moves_of-own part.record.0 is.before m (eq-eqb m.record.0 part.record.0 same)

      was_own : GoOn 0 (moves_of part.record.0 is.before ++ is.last ∷ []) part.first.0
      was_own =
          subst (λ ms. GoOn 0 ms part.first.0)
          (ap (moves_of part.record.0) is.was ∙ own-with is.last is.same) goes

      meets : is.last.end.0 ≡ part.first.0
      meets = go_on-end 0 (moves_of part.record.0 is.before) part.first.0 is.last was_own

      parts-longer : begins event ≡ false → AllByRecursion (IsPart records) new
      parts-longer goes_on =
          subst (AllByRecursion (IsPart records)) (sym is.now)
          (all-append (IsPart records) is.before (longer is.last part ∷ [])
          (all-left (IsPart records) is.before (is.last ∷ []) all-of)
          (part-long is.last last-part is.same meets goes_on, tt))

      all-longer : AreLongest records old → AreLongest records new
      all-longer all =
          subst (AreLongest records) (sym is.now)
          (longest-longer records is.before is.last (longer is.last part) (subst (AreLongest records) is.was all) refl
          (λ (one : IsOpening records is.last). record {
            trace = one.trace;
            is_there = one.is_there;
            event = one.event;
            event_is = one.event_is;
            opens = one.opens;
          }))

      done-longer : begins event ≡ false → done_by records new ≡ done_by records old ++ did next.trace.pid event ∷ []
      done-longer goes_on =
          ap (done_by records) is.now
          ∙ flat_map-last (done_in records) is.before (longer is.last part)
          ∙ ap (λ ds. done_by records is.before ++ ds) (done-long is.last last-part is.same meets goes_on)
          ∙ sym (append_assoc (done_by records is.before) (done_in records is.last) (did next.trace.pid event ∷ []))
          ∙ ap (λ ds. ds ++ did next.trace.pid event ∷ []) (sym (flat_map-last (done_in records) is.before is.last))
          ∙ ap (λ ms. done_by records ms ++ did next.trace.pid event ∷ []) (sym is.was)

      own-longer : GoOn 0 (moves_of part.record.0 new) part.end.0
      own-longer =
          subst (λ ms. GoOn 0 (moves_of part.record.0 ms) part.end.0) (sym is.now)
          (subst (λ ms. GoOn 0 ms part.end.0) (sym (own-with (longer is.last part) is.same))
          (go_on-longer 0 (moves_of part.record.0 is.before) part.first.0 is.last (longer is.last part) was_own refl))

      other-longer : (place : ℕ) → (place ≡ part.record.0 → ⊥) → moves_of place new ≡ moves_of place old
      other-longer place apart =
          let not_last : (is.last.record.0 == place) ≡ false =
          false_from_ne_true (is.last.record.0 == place)
          (λ e. apart (sym (eqb-true is.last.record.0 place e) ∙ is.same)) in
          ap (moves_of place) is.now
          ∙ moves_of-other place is.before (longer is.last part) not_last
          ∙ sym (moves_of-other place is.before is.last not_last)
          ∙ ap (moves_of place) (sym is.was)

    opening : begins event ≡ true → IsOpening records part
    opening opens = record {
      trace = next.trace;
      is_there = next.there;
      event = event;
      event_is = ap (slice_get next.trace.events) (sym next.told)
          ∙ ap (λ es. slice_get es (length next.first)) next.all ∙ get-middle next.first event next.rest;
      opens = opens;
    }

    opens-where : (begins event ≡ true) ⊎ EndsElsewhere old part → (before : List Move) (last : Move)
        → old ≡ before ++ last ∷ [] → last.record.0 ≡ part.record.0 → IsOpening records part
    opens-where (inl opens) before last was same = opening opens
    opens-where (inr elsewhere) before last was same = absurd (elsewhere before last was same)

    pub parts-grown : Grows old new part (begins event) → AllByRecursion (IsPart records) new
    parts-grown (made_longer goes_on is) = parts-longer is goes_on
    parts-grown (one_more now alone) =
        subst (AllByRecursion (IsPart records)) (sym now)
        (all-append (IsPart records) old (part ∷ []) parts (part-own, tt))

    pub longest-grown : AreLongest records old → Grows old new part (begins event) → AreLongest records new
    longest-grown all (made_longer goes_on is) = all-longer is all
    longest-grown all (one_more now alone) =
        subst (AreLongest records) (sym now) (longest-more records old part all (opens-where alone))

    pub done-grown : Grows old new part (begins event)
        → done_by records new ≡ done_by records old ++ did next.trace.pid event ∷ []
    done-grown (made_longer goes_on is) = done-longer is goes_on
    done-grown (one_more now alone) =
        ap (done_by records) now ∙ flat_map-last (done_in records) old part
        ∙ ap (λ ds. done_by records old ++ ds) done-own

    pub own-grown : Grows old new part (begins event) → GoOn 0 (moves_of part.record.0 new) part.end.0
    own-grown (made_longer goes_on is) = own-longer is
    own-grown (one_more now alone) =
        let place : ℕ = part.record.0 in
        subst (λ ms. GoOn 0 (moves_of place ms) part.end.0) (sym now)
        (subst (λ ms. GoOn 0 ms part.end.0) (sym (moves_of-own place old part (eq-eqb place place refl)))
        (go_on-last 0 (moves_of place old) part.first.0 part goes refl))

    pub other-grown : Grows old new part (begins event) → (place : ℕ) → (place ≡ part.record.0 → ⊥)
        → moves_of place new ≡ moves_of place old
    other-grown (made_longer goes_on is) place apart = other-longer is place apart
    other-grown (one_more now alone) place apart =
        ap (moves_of place) now
        ∙ moves_of-other place old part
        (false_from_ne_true (part.record.0 == place) (λ e. apart (sym (eqb-true part.record.0 place e))))

-- ---- the last of them

-- all before the last one, and that
module _ (xs : List Move) (n : ℕ) (x : Move) (many : length xs ≡ n + 1) (at : x ≡ get_or xs n x) where
  last-split : xs ≡ take n xs ++ x ∷ []
  last-split =
      sym (take_all (n + 1) xs (omega (arith, many)))
      ∙ take_more xs n x (omega (arith, many)) ∙ ap (λ (y : Move). take n xs ++ y ∷ []) (sym at)

  set-last : (y : Move) → set xs n y ≡ take n xs ++ y ∷ []
  set-last y =
      let here : length (take n xs) ≡ n = length-take-le n xs (omega (arith, many)) in
      ap (λ (l : List Move). set l n y) last-split
      ∙ ap (λ (k : ℕ). set (take n xs ++ x ∷ []) k y) (sym here) ∙ set-middle (take n xs) x [] y

  pub lengthens-so : (new : List Move) (part : Move) → x.record.0 ≡ part.record.0 → new ≡ set xs n (longer x part)
      → Lengthens xs new part
  lengthens-so new part same now = record {
    before = take n xs;
    last = x;
    was = last-split;
    same = same;
    now = now ∙ set-last (longer x part);
  }

  pub elsewhere-so : (part : Move) → (x.record.0 ≡ part.record.0 → ⊥) → EndsElsewhere xs part
  elsewhere-so part apart = λ before last was same.
      let two : length xs ≡ length before + 1 = ap length was ∙ length_push before last in
      let here : n ≡ length before = omega (arith, many, two) in
      let e : Some x ≡ Some last =
      sym (slice_get-get_or xs n x (omega (arith, many)) ∙ ap Some (sym at))
      ∙ ap (slice_get xs) here ∙ ap (λ l. slice_get l (length before)) was ∙ get-middle before last [] in
      let it : x ≡ last = cc in
      apart (ap (λ (m : Move). m.record.0) it ∙ same)
