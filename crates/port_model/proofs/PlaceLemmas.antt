-- What is known of places, from step to step.
use Rattle.std.proofs.Common.{◌≡◌, not, refl, ℕ, ◌<◌, ◌≤◌, ◌==◌, Bool, true, false, ◌&&◌, cond, List, [], ◌∷◌, ◌^◌, Some, None, subst, sym, ap, ◌∙◌, ◌+◌, ⊎_elim, arith}
use Rattle.std.specs.Map.{lookup}
use Rattle.std.specs.Prelude.{Option, is_some, min, slice_get, IfSome, MatchOption, ⊤}
use Rattle.std.specs.BTreeSet.{BTreeSet, IsKeyInRange, IsKeyRangeOf}
use Rattle.std.specs.declared.ops.Bound.TheVariants.{Included, Unbounded}
use Rattle.std.specs.List.{list_any}
use Rattle.std.specs.BTreeMap.{is_at}
use Rattle.std.specs.BTreeMap.Range.{IsLeBy}
use Rattle.std.specs.Ordering.{nat_cmp}
use Rattle.std.specs.Cmp.{both_tied, unsigned_ties}
use Rattle.std.proofs.lemmas.Bool.{and_parts, cases_Bool, cases_lt, eqb-true, false_from_ne_true, or_cases}
use Rattle.std.proofs.lemmas.List.Elements.{All-head, All-tail}
use Rattle.std.proofs.lemmas.Bool.Decides.{nat_tests}
use Rattle.port_model.specs.declared.values.item.SignalId.{SignalId}
use Rattle.port_model.specs.declared.values.timer_key.TimerKey.{TimerKey}
use Rattle.port_model.specs.contracts.values.timer_key.TimerKeyOrd.TheImpl.Laws.{matches_eq-law}
use Rattle.port_model.specs.declared.selection.Class.{Class}
use Rattle.port_model.specs.declared.places.NamedPlace.{NamedPlace}
use Rattle.port_model.specs.declared.wanted.Wanted.{Wanted}
use Rattle.port_model.specs.Places.{has_place, is_named, named_at, named_order, IsFirstFrom, HaveNames, IsFirstWanted, IsNamed, NoneFrom, NoneWanted, PlacesValue}
use Rattle.port_model.specs.Selection.{class_of}
use Rattle.port_model.specs.Timers.{is_signal_of, same_key, key_order}
use Rattle.port_model.specs.declared.got.Got.{Got}
use Rattle.port_model.specs.declared.got.Got.TheVariants.{Timer}
use Rattle.port_model.specs.Take.{name_of}
use Rattle.port_model.specs.Wanted.{is_wanted}
use Rattle.port_model.proofs.Keys.{same_key-Decides}

pub same_name : (a b : SignalId) → a.0 ≡ b.0 → a ≡ b
same_name a b same = ap (λ n. record { 0 = n }) same

-- a name at a place is told by both
pub named_is : (name : SignalId) (place : ℕ) (q : NamedPlace) → is_named name place q ≡ (name.0 == q.name.0 && place == q.place)
named_is name place q =
    sym (both_tied _ _ (nat_cmp name.0 q.name.0) (nat_cmp place q.place) (unsigned_ties name.0 q.name.0) (unsigned_ties place q.place))

-- and a timer by its key
pub keyed_is : (key k : TimerKey) → is_at (key_order key) k ≡ same_key key k
keyed_is key k = sym (matches_eq-law key k)

-- an entry that is noted, and one that is no more
pub named_gone : (name : SignalId) (got : Got) (place : ℕ) (q : NamedPlace) (old : Bool) {new : Bool} → name ≡ name_of got
    → new ≡ cond (is_named name place q) false old → new ≡ cond (is_named (name_of got) place q) false old
named_gone name got place q old is e = e ∙ ap (λ n. cond (is_named n place q) false old) is

pub named_more : (name : SignalId) (got : Got) (place : ℕ) (q : NamedPlace) (old : Bool) {new : Bool} → name ≡ name_of got
    → new ≡ cond (is_named name place q) true old → new ≡ cond (is_named (name_of got) place q) true old
named_more name got place q old is e = e ∙ ap (λ n. cond (is_named n place q) true old) is

pub timer_gone : (key : TimerKey) (got : Got) (k : TimerKey) (old : Option ℕ) {new : Option ℕ} → got ≡ Timer key
    → new ≡ cond (is_at (key_order key) k) None old → new ≡ cond (is_signal_of k got) None old
timer_gone key got k old is e = e ∙ ap (λ b. cond b None old) (keyed_is key k ∙ sym (ap (is_signal_of k) is))

pub timer_more : (key : TimerKey) (got : Got) (place : ℕ) (k : TimerKey) (old : Option ℕ) {new : Option ℕ} → got ≡ Timer key
    → new ≡ cond (is_at (key_order key) k) (Some place) old → new ≡ cond (is_signal_of k got) (Some place) old
timer_more key got place k old is e = e ∙ ap (λ b. cond b (Some place) old) (keyed_is key k ∙ sym (ap (is_signal_of k) is))

none_kept : (place : Option ℕ) → false ≡ is_some place → place ≡ None
none_kept None e = refl
none_kept (Some place) e = absurd cc

pub absent_timer : (key : TimerKey) (got : Got) (timers : List (TimerKey × ℕ)) → got ≡ Timer key → false ≡ is_some (lookup (is_at (key_order key)) timers)
    → (k : TimerKey) → is_signal_of k got ≡ true → lookup (is_at (key_order k)) timers ≡ None
absent_timer key got timers is none k its =
    let same : key ≡ k = (same_key-Decides key k).0 (sym (ap (is_signal_of k) is) ∙ its) in
    subst (λ j. lookup (is_at (key_order j)) timers ≡ None) same (none_kept (lookup (is_at (key_order key)) timers) none)

-- an entry that was noted by its name and then not after all
pub name_again : (old : PlacesValue) (name : SignalId) (place : ℕ) (q : NamedPlace) {mid new : Bool} → true ≡ not (has_place old (named_at name place))
    → mid ≡ cond (is_named name place q) true (has_place old q) → new ≡ cond (is_named name place q) false mid → new ≡ has_place old q
name_again old name place q {mid} {new} fresh more less =
    ⊎_elim
    (λ here. let both : (name.0 == q.name.0 && place == q.place) ≡ true = sym (named_is name place q) ∙ here in
    let parts = and_parts (name.0 == q.name.0) (place == q.place) both in
    let same : named_at name place ≡ q = ap (λ n. named_at n place) (same_name name q.name (eqb-true name.0 q.name.0 parts.0))
    ∙ ap (λ p. named_at q.name p) (eqb-true place q.place parts.1) in
    let none : true ≡ not (has_place old q) = subst (λ k. true ≡ not (has_place old k)) same fresh in grind arith)
    (λ apart. grind arith) (cases_Bool (is_named name place q))

-- the order of places is that of names, and of one name's places that of the places
pub named_le : (a b : NamedPlace) → IsLeBy named_order a b → (a.name.0 ≤ b.name.0) × (a.name.0 ≡ b.name.0 → a.place ≤ b.place)
named_le a b le = (grind (arith, nat_tests), λ same. grind (arith, nat_tests))

-- ---- the part of a set from a name on
at_least : (name : SignalId) (q : NamedPlace) → name.0 ≤ q.name.0 → IsLeBy named_order (named_at name 0) q
at_least name q le = grind (arith, nat_tests)

module _ (set : BTreeSet NamedPlace) (timers : List (TimerKey × ℕ)) (name : SignalId) (range : List NamedPlace)
    (is : IsKeyRangeOf named_order (Included (named_at name 0)) Unbounded set range) where
  pub none_from : range ≡ [] → NoneFrom name (record { names = set.keys; timers = timers })
  none_from e = λ q has. ⊎_elim (λ lt. lt) (λ past. let none = is.5 e q (at_least name q past, tt) in absurd cc) (cases_lt q.name.0 name.0)

  pub first_from : (found : NamedPlace) (rest : List NamedPlace) → range ≡ found ∷ rest → IsFirstFrom name (record { names = set.keys; timers = timers }) found
  first_from found rest e =
      let first = subst (λ l. IfSome (slice_get l 0) (IsKeyInRange named_order (Included (named_at name 0)) Unbounded set)) e is.1 in record {
        there = first.1;
        from = (named_le (named_at name 0) found first.0.0).0;
        first = λ q has past. subst (λ l. IfSome (slice_get l 0) (λ k. IsLeBy named_order k q)) e (is.2 q (at_least name q past, tt) has);
      }

-- names are numbers of 32 bits
pub names_fit : (names : List NamedPlace) → HaveNames names → (q : NamedPlace) → list_any (is_at (named_order q)) names ≡ true → q.name.0 < 2 ^ 32
names_fit [] all q has = absurd cc
names_fit (k ∷ names) all q has =
    let here = All-head IsNamed k names all in let named = named_is q.name q.place k in ⊎_elim
    (λ same. grind (arith, nat_tests)) (λ more. names_fit names (All-tail IsNamed k names all) q more)
    (or_cases (is_at (named_order q) k) (list_any (is_at (named_order q)) names) has)

-- ---- a look for the first place of what is wanted, name by name
-- it is the first one of the names below this one
pub record IsFirstBelow (w : Wanted) (classes : List Class) (places : PlacesValue) (from : ℕ) (first : Option ℕ) : Type 0 where
  pub found : MatchOption first ⊤ (λ place. (name : SignalId) × (has_place places (named_at name place) ≡ true) × (is_wanted w (class_of classes name) ≡ true))
  pub least : (q : NamedPlace) → has_place places q ≡ true → q.name.0 < from → is_wanted w (class_of classes q.name) ≡ true
      → MatchOption first ⊥ (λ place. place ≤ q.place)

module _ (w : Wanted) (classes : List Class) (places : PlacesValue) where
  pub none_below : IsFirstBelow w classes places 0 None
  none_below = record { found = tt; least = λ q has below wanted. absurd (omega (arith, below)) }

  module _ {from : ℕ} (first : Option ℕ) (found : NamedPlace) (f : IsFirstFrom (record { 0 = from }) places found) (is : IsFirstBelow w classes places from first) where
    -- what stands under a name up to the one found, and not under one before it, stands under that one, and no earlier
    same_as_found : (q : NamedPlace) → has_place places q ≡ true → q.name.0 < found.name.0 + 1 → from ≤ q.name.0
        → (q.name ≡ found.name) × (found.place ≤ q.place)
    same_as_found q has below past =
        let le = named_le found q (f.first q has past) in let same : found.name.0 ≡ q.name.0 = omega (arith, le.0) in
        (sym (same_name found.name q.name same), le.1 same)

    -- that name isn't wanted
    pub passes_name : is_wanted w (class_of classes found.name) ≡ false → IsFirstBelow w classes places (found.name.0 + 1) first
    passes_name unwanted = record {
      found = is.found;
      least = λ q has below wanted. ⊎_elim (λ lt. is.least q has lt wanted)
          (λ past. let same = (same_as_found q has below past).0 in let e : is_wanted w (class_of classes found.name) ≡ true = cc in absurd cc)
          (cases_lt q.name.0 from);
    }

  -- it is
  pub finds_name : {from : ℕ} (first : Option ℕ) (found : NamedPlace) → IsFirstFrom (record { 0 = from }) places found
      → IsFirstBelow w classes places from first → is_wanted w (class_of classes found.name) ≡ true → (least : ℕ)
      → MatchOption first (least ≡ found.place) (λ place. least ≡ min place found.place)
      → IsFirstBelow w classes places (found.name.0 + 1) (Some least)
  finds_name {from} None found f is here least e = record {
    found = (found.name, subst (λ p. has_place places (named_at found.name p) ≡ true) (sym e) f.there, here);
    least = λ q has below wanted. ⊎_elim (λ lt. absurd (is.least q has lt wanted))
        (λ past. let le = (same_as_found None found f is q has below past).1 in omega arith) (cases_lt q.name.0 from);
  }
  finds_name {from} (Some place) found f is here least e = record {
    found = ⊎_elim
        (λ lt. let same : least ≡ place = omega arith in
        (is.found.0, subst (λ p. has_place places (named_at is.found.0 p) ≡ true) (sym same) is.found.1, is.found.2))
        (λ ge. let same : least ≡ found.place = omega arith in
        (found.name, subst (λ p. has_place places (named_at found.name p) ≡ true) (sym same) f.there, here)) (cases_lt place found.place);
    least = λ q has below wanted. ⊎_elim (λ lt. let le = is.least q has lt wanted in omega arith)
        (λ past. let le = (same_as_found (Some place) found f is q has below past).1 in omega arith) (cases_lt q.name.0 from);
  }

  -- all names were looked at
  pub all_looked_at : {from : ℕ} (first : Option ℕ) → ((q : NamedPlace) → has_place places q ≡ true → q.name.0 < from)
      → IsFirstBelow w classes places from first → MatchOption first (NoneWanted w classes places) (IsFirstWanted w classes places)
  all_looked_at None all is =
      λ q has. false_from_ne_true (is_wanted w (class_of classes q.name)) (λ yes. is.least q has (all q has) yes)
  all_looked_at (Some place) all is = record {
    name = is.found.0;
    there = is.found.1;
    wanted = is.found.2;
    first = λ q has wanted. is.least q has (all q has) wanted;
  }
