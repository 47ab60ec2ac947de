-- The entries that were passed over, from step to step.
use Rattle.std.proofs.Common.{◌≡◌, ℕ, ◌+◌, ◌<◌, ◌==◌, true, false, cond, List, [], ◌∷◌, ◌++◌, map, Some, None, All, subst, sym, ap, ◌∙◌, refl, ⊎_elim, arith}
use Rattle.std.specs.Prelude.{Contains, Option, is_some}
use Rattle.std.specs.List.{list_any}
use Rattle.std.specs.List.Sorted.{IsStrictlySortedBy}
use Rattle.std.specs.Map.{keys_of, remove_entry}
use Rattle.std.specs.BTreeMap.{is_at, insert_entry}
use Rattle.std.specs.Ordering.{is_lt, nat_cmp}
use Rattle.std.proofs.lemmas.Bool.Decides.{nat_tests}
use Rattle.std.specs.Cmp.{eq_by_cmp_equiv, nat_cmp_total, unsigned_ties}
use Rattle.std.specs.declared.cmp.Ordering.TheVariants.{Less, Greater}
use Rattle.std.proofs.lemmas.Bool.{cases_eq, eqb-true, false_from_ne_true}
use Rattle.std.proofs.lemmas.List.Folds.{list_any_none}
use Rattle.std.proofs.lemmas.List.{map_push, map-append}
use Rattle.std.proofs.lemmas.List.Elements.{All-append, All-contains_itself, All-head, All-map, All-nil, All-tail, All-weaker, All-cons}
use Rattle.std.proofs.lemmas.Map.Keys.{sorted_tail, IsDistinct-from_sorted}
use Rattle.std.proofs.lemmas.Map.Views.{All-after_first, lookup-from_Contains}
use Rattle.port_model.specs.declared.values.item.SignalId.{SignalId}
use Rattle.port_model.specs.declared.values.timer_key.TimerKey.{TimerKey}
use Rattle.port_model.specs.declared.selection.Class.{Class}
use Rattle.port_model.specs.declared.got.Got.{Got}
use Rattle.port_model.specs.declared.places.NamedPlace.{NamedPlace}
use Rattle.port_model.specs.declared.wanted.Wanted.{Wanted}
use Rattle.port_model.specs.Backlog.{Leaves}
use Rattle.port_model.specs.Passed.{entry_at, gots_in, has_name, has_signal_of, holds_signal_of, is_place, AreBefore, IsPassed, Loses, Standing}
use Rattle.port_model.specs.Places.{has_place, named_at, place_of, IsFirstWanted, IsNoted, IsUnnoted, NoneWanted, PlacesValue}
use Rattle.port_model.specs.Take.{name_of}
use Rattle.port_model.specs.Timers.{is_signal_of, without_signal}
use Rattle.port_model.specs.Wanted.{is_wanted, IsUnwanted, IsWanted}
use Rattle.port_model.specs.Selection.{class_of}
use Rattle.port_model.proofs.Lists.{any_with, middle, none_left, others_left}
use Rattle.port_model.proofs.PlaceLemmas.{named_is, same_name}

-- ---- lists of entries: what holds of what is made of each, and of the parts of a list
all_of_map : {X Y : Type 0} (f : Y → X) (P : X → Type 0) (ys : List Y) → All P (map f ys) → All (λ y. P (f y)) ys
all_of_map f P [] all = All-nil (λ y. P (f y))
all_of_map f P (y ∷ ys) all =
    All-cons (λ y. P (f y)) y ys (All-head P (f y) (map f ys) all) (all_of_map f P ys (All-tail P (f y) (map f ys) all))

all_parts : {X : Type 0} (P : X → Type 0) (xs ys : List X) → All P (xs ++ ys) → All P xs × All P ys
all_parts P [] ys all = (All-nil P, all)
all_parts P (x ∷ xs) ys all =
    let parts = all_parts P xs ys (All-tail P x (xs ++ ys) all) in (All-cons P x xs (All-head P x (xs ++ ys) all) parts.0, parts.1)

all_both : {X : Type 0} (P Q R : X → Type 0) → ((x : X) → P x → Q x → R x) → (xs : List X) → All P xs → All Q xs → All R xs
all_both P Q R h [] p q = All-nil R
all_both P Q R h (x ∷ xs) p q =
    All-cons R x xs (h x (All-head P x xs p) (All-head Q x xs q)) (all_both P Q R h xs (All-tail P x xs p) (All-tail Q x xs q))

-- places are told apart as numbers
at_is : (place q : ℕ) → is_at (nat_cmp place) q ≡ (place == q)
at_is place q = sym (unsigned_ties place q)

-- no entry stands at a place behind all others
pub fresh : (place : ℕ) (entries : List Standing) → AreBefore place entries → entry_at place entries ≡ None
fresh place [] all = refl
fresh place (e ∷ es) all =
    let lt = All-head (λ (e : Standing). e.0 < place) e es all in let further = fresh place es (All-tail (λ (e : Standing). e.0 < place) e es all) in
    let at = at_is place e.0 in grind (arith, nat_tests)

-- an entry that is put there goes behind all others
pub put_last : (place : ℕ) (got : Got) (entries : List Standing) → AreBefore place entries
    → insert_entry nat_cmp entries place got ≡ entries ++ (place, got) ∷ []
put_last place got [] all = refl
put_last place got (e ∷ es) all =
    let lt = All-head (λ (e : Standing). e.0 < place) e es all in
    let further = put_last place got es (All-tail (λ (e : Standing). e.0 < place) e es all) in
    let greater : nat_cmp place e.0 ≡ Greater = grind (arith, nat_tests) in rw greater (ap (λ l. e ∷ l) further)

pub gots_with : (place : ℕ) (got : Got) (entries : List Standing) {now : List Standing} → AreBefore place entries → now ≡ insert_entry nat_cmp entries place got
    → gots_in now ≡ gots_in entries ++ got ∷ []
gots_with place got entries before is =
    ap gots_in (is ∙ put_last place got entries before) ∙ map_push (λ (e : Standing). e.1) entries (place, got)

-- what is known of places stays what stands there: an entry more, an entry less, and an entry that was not put after all
module _ {entries : List Standing} {places : PlacesValue} (is : IsPassed entries places) (place : ℕ) (got : Got) where
  pub passed_with : (now : List Standing) (new : PlacesValue) → IsStrictlySortedBy nat_cmp (keys_of now) → entry_at place entries ≡ None → IsNoted got place places new
      → ((q : ℕ) → entry_at q now ≡ cond (is_at (nat_cmp place) q) (Some got) (entry_at q entries)) → IsPassed now new
  passed_with now new ordered none noted updates = record {
    ordered = ordered;
    names = λ q. let was = is.names q in let is_now = noted.names q in let named = named_is (name_of got) place q in let at = at_is place q.place in
        let entry = updates q.place in ⊎_elim
        (λ same. let empty : entry_at q.place entries ≡ None = subst (λ p. entry_at p entries ≡ None) same none in grind (arith, nat_tests))
        (λ apart. grind (arith, nat_tests)) (cases_eq place q.place);
    timers = λ key p. let was = is.timers key p in let is_now = noted.timed.timers key in let at = at_is place p in
        let entry = updates p in let absent = noted.timed.absent key in ⊎_elim
        (λ same. let empty : entry_at p entries ≡ None = subst (λ p. entry_at p entries ≡ None) same none in grind (arith, nat_tests))
        (λ apart. grind (arith, nat_tests)) (cases_eq place p);
  }

  pub passed_without : (now : List Standing) (new : PlacesValue) → IsStrictlySortedBy nat_cmp (keys_of now) → entry_at place entries ≡ Some got
      → IsUnnoted got place places new
      → ((q : ℕ) → entry_at q now ≡ cond (is_at (nat_cmp place) q) None (entry_at q entries)) → IsPassed now new
  passed_without now new ordered there unnoted updates = record {
    ordered = ordered;
    names = λ q. let was = is.names q in let is_now = unnoted.names q in let named = named_is (name_of got) place q in let at = at_is place q.place in
        let entry = updates q.place in ⊎_elim
        (λ same. let here : entry_at q.place entries ≡ Some got = subst (λ p. entry_at p entries ≡ Some got) same there in grind (arith, nat_tests))
        (λ apart. grind (arith, nat_tests)) (cases_eq place q.place);
    timers = λ key p. let was = is.timers key p in let is_now = unnoted.timers key in let at = at_is place p in
        let entry = updates p in let timed = is.timers key place in ⊎_elim
        (λ same. let here : entry_at p entries ≡ Some got = subst (λ p. entry_at p entries ≡ Some got) same there in grind (arith, nat_tests))
        (λ apart. grind (arith, nat_tests)) (cases_eq place p);
  }

  pub passed_again : (mid new : PlacesValue) → entry_at place entries ≡ None → IsNoted got place places mid → IsUnnoted got place mid new
      → IsPassed entries new
  passed_again mid new none noted unnoted = record {
    ordered = is.ordered;
    names = λ q. let was = is.names q in let then = noted.names q in let is_now = unnoted.names q in let named = named_is (name_of got) place q in ⊎_elim
        (λ same. let empty : entry_at q.place entries ≡ None = subst (λ p. entry_at p entries ≡ None) same none in grind (arith, nat_tests))
        (λ apart. grind (arith, nat_tests)) (cases_eq place q.place);
    timers = λ key p. let was = is.timers key p in let then = noted.timed.timers key in let is_now = unnoted.timers key in
        let absent = noted.timed.absent key in grind (arith, nat_tests);
  }

pub passed_as : {entries : List Standing} {places : PlacesValue} → IsPassed entries places → (new : PlacesValue)
    → ((q : NamedPlace) → has_place new q ≡ has_place places q) → ((key : TimerKey) → place_of new key ≡ place_of places key) → IsPassed entries new
passed_as is new names timers = record {
  ordered = is.ordered;
  names = λ q. names q ∙ is.names q;
  timers = λ key p. ap (is_place p) (timers key) ∙ is.timers key p;
}

-- a place behind the last one is behind all
pub behind_last : (last : ℕ) (entries : List Standing) → All (λ q. is_lt (nat_cmp last q) ≡ false) (keys_of entries) → AreBefore (last + 1) entries
behind_last last entries all =
    All-weaker (λ (e : Standing). is_lt (nat_cmp last e.0) ≡ false) (λ (e : Standing). e.0 < last + 1) (λ e past. grind (arith, nat_tests)) entries
    (all_of_map (λ (e : Standing). e.0) (λ q. is_lt (nat_cmp last q) ≡ false) entries all)

-- ---- an entry is taken out
loses_more : {es rest : List Standing} {place : ℕ} {got : Got} (e : Standing) → e.0 < place → Loses es place got rest → Loses (e ∷ es) place got (e ∷ rest)
loses_more {place = place} e lt l = record {
  before = e ∷ l.before;
  after = l.after;
  was = ap (λ es. e ∷ es) l.was;
  now = ap (λ es. e ∷ es) l.now;
  lesser = All-cons (λ (e : Standing). e.0 < place) e l.before lt l.lesser;
  greater = l.greater;
}

pub loses : (place : ℕ) (got : Got) (entries : List Standing) → IsStrictlySortedBy nat_cmp (keys_of entries) → entry_at place entries ≡ Some got
    → Loses entries place got (remove_entry (is_at (nat_cmp place)) entries)
loses place got [] ordered there = absurd cc
loses place got (e ∷ es) ordered there =
    let less = all_of_map (λ (x : Standing). x.0) (λ q. nat_cmp e.0 q ≡ Less) es (All-after_first nat_cmp e.0 (keys_of es) ordered) in
    let later : All (λ (x : Standing). e.0 < x.0) es =
    All-weaker (λ (x : Standing). nat_cmp e.0 x.0 ≡ Less) (λ (x : Standing). e.0 < x.0) (λ x l. grind (arith, nat_tests)) es less in
    elim (is_at (nat_cmp place) e.0) as (λ b. is_at (nat_cmp place) e.0 ≡ b → cond b (Some e.1) (entry_at place es) ≡ Some got
    → Loses (e ∷ es) place got (cond b es (e ∷ remove_entry (is_at (nat_cmp place)) es))) [
      | true ↦ (λ here is. let same : e.0 ≡ place = (let at = at_is place e.0 in grind (arith, nat_tests)) in let value : e.1 ≡ got = cc in
          let entry : e ≡ (place, got) = ap (λ p. (p, e.1)) same ∙ ap (λ g. (place, g)) value in record {
            before = [];
            after = es;
            was = ap (λ (x : Standing). x ∷ es) entry;
            now = refl;
            lesser = All-nil (λ (x : Standing). x.0 < place);
            greater = subst (λ p. All (λ (x : Standing). p < x.0) es) same later;
          })
      | false ↦ (λ apart is. let l = loses place got es (sorted_tail nat_cmp e.0 (keys_of es) ordered) is in
          loses_more e (All-head (λ (x : Standing). e.0 < x.0) (place, got) l.after
          ((all_parts (λ (x : Standing). e.0 < x.0) l.before ((place, got) ∷ l.after) (subst (All (λ (x : Standing). e.0 < x.0)) l.was later)).1)) l)
    ] refl there

-- what has a name, or is a timer's signal, is there
named_some : (name : SignalId) (got : Option Got) → has_name name got ≡ true → is_some got ≡ true
named_some name None here = absurd cc
named_some name (Some got) here = refl

signal_some : (key : TimerKey) (got : Option Got) → has_signal_of key got ≡ true → is_some got ≡ true
signal_some key None here = absurd cc
signal_some key (Some got) here = refl

eqb-same : (n : ℕ) → (n == n) ≡ true
eqb-same n = grind (arith, nat_tests)

-- each entry is found at its place
pub found : (entries : List Standing) → IsStrictlySortedBy nat_cmp (keys_of entries) → All (λ (e : Standing). entry_at e.0 entries ≡ Some e.1) entries
found entries ordered =
    All-weaker (Contains entries) (λ (e : Standing). entry_at e.0 entries ≡ Some e.1)
    (λ e c. lookup-from_Contains (eq_by_cmp_equiv nat_cmp_total) e.0 e.1 entries (IsDistinct-from_sorted nat_cmp (keys_of entries) ordered) c)
    entries (All-contains_itself entries)

-- what is found at its place is known there by its name
named_there : {entries : List Standing} {places : PlacesValue} → IsPassed entries places → (e : Standing) → entry_at e.0 entries ≡ Some e.1
    → has_place places (named_at (name_of e.1) e.0) ≡ true
named_there is e at = is.names (named_at (name_of e.1) e.0) ∙ ap (has_name (name_of e.1)) at ∙ eqb-same (name_of e.1).0

module _ {entries now : List Standing} {place : ℕ} {got : Got} (l : Loses entries place got now) where
  gots_were : gots_in entries ≡ gots_in l.before ++ got ∷ gots_in l.after
  gots_were = ap gots_in l.was ∙ map-append (λ (e : Standing). e.1) l.before ((place, got) ∷ l.after)

  gots_are : gots_in now ≡ gots_in l.before ++ gots_in l.after
  gots_are = ap gots_in l.now ∙ map-append (λ (e : Standing). e.1) l.before l.after

  module _ {places : PlacesValue} (is : IsPassed entries places) where
    abbrev IsFound : Standing → Type 0
    IsFound e = entry_at e.0 entries ≡ Some e.1

    all_found : All IsFound l.before × All IsFound ((place, got) ∷ l.after)
    all_found = all_parts IsFound l.before ((place, got) ∷ l.after) (subst (All IsFound) l.was (found entries is.ordered))

    pub stood_there : entry_at place entries ≡ Some got
    stood_there = All-head IsFound (place, got) l.after all_found.1

    -- the first that is wanted is taken
    pub takes_first : (w : Wanted) (classes : List Class) → IsFirstWanted w classes places place
        → Leaves (IsUnwanted w classes) (gots_in entries) got (gots_in now) × IsWanted w classes got
    takes_first w classes first = (
      record {
        before = gots_in l.before;
        after = gots_in l.after;
        was = gots_were;
        passed = All-map (IsUnwanted w classes) (λ (e : Standing). e.1) l.before
            (all_both IsFound (λ (e : Standing). e.0 < place) (λ (e : Standing). IsUnwanted w classes e.1)
            (λ e at lt. false_from_ne_true (is_wanted w (class_of classes (name_of e.1)))
            (λ here. let le = first.first (named_at (name_of e.1) e.0) (named_there is e at) here in omega arith)) l.before all_found.0 l.lesser);
        now = gots_are;
      },
      let named : ((name_of got).0 == first.name.0) ≡ true = sym (ap (has_name first.name) stood_there) ∙ sym (is.names (named_at first.name place)) ∙ first.there in
          subst (λ n. is_wanted w (class_of classes n) ≡ true) (sym (same_name (name_of got) first.name (eqb-true (name_of got).0 first.name.0 named))) first.wanted,
    )

    -- the signal of a timer is taken
    module _ (key : TimerKey) (at : place_of places key ≡ Some place) where
      is_its : is_signal_of key got ≡ true
      is_its =
          sym (ap (has_signal_of key) stood_there) ∙ sym (is.timers key place) ∙ ap (is_place place) at ∙ eqb-same place

      others_not : (e : Standing) → IsFound e → (e.0 ≡ place → ⊥) → is_signal_of key e.1 ≡ false
      others_not e found apart =
          let timed = is.timers key e.0 in let here = ap (has_signal_of key) found in let of = ap (is_place e.0) at in grind (arith, nat_tests)

      none_other : list_any (is_signal_of key) (gots_in l.before ++ gots_in l.after) ≡ false
      none_other =
          list_any_none (is_signal_of key) (gots_in l.before ++ gots_in l.after)
          (All-append (λ g. is_signal_of key g ≡ false) (gots_in l.before) (gots_in l.after)
          (All-map (λ g. is_signal_of key g ≡ false) (λ (e : Standing). e.1) l.before
          (all_both IsFound (λ (e : Standing). e.0 < place) (λ (e : Standing). is_signal_of key e.1 ≡ false)
          (λ e found lt. others_not e found (λ same. omega arith)) l.before all_found.0 l.lesser))
          (All-map (λ g. is_signal_of key g ≡ false) (λ (e : Standing). e.1) l.after
          (all_both IsFound (λ (e : Standing). place < e.0) (λ (e : Standing). is_signal_of key e.1 ≡ false)
          (λ e found lt. others_not e found (λ same. omega arith)) l.after (All-tail IsFound (place, got) l.after all_found.1) l.greater)))

      pub takes_signal : (true ≡ holds_signal_of key (gots_in entries)) × (gots_in now ≡ without_signal key (gots_in entries))
      takes_signal =
          let w = middle (gots_in l.before) (gots_in l.after) got in (
            let any = any_with (is_signal_of key) w in let mine = is_its in let were = ap (holds_signal_of key) gots_were in grind arith,
            gots_are ∙ sym (others_left (is_signal_of key) w is_its none_other) ∙ sym (ap (without_signal key) gots_were),
          )

module _ {entries : List Standing} {places : PlacesValue} (is : IsPassed entries places) where
  pub first_is_there : (w : Wanted) (classes : List Class) (place : ℕ) → IsFirstWanted w classes places place → is_some (entry_at place entries) ≡ true
  first_is_there w classes place first = named_some first.name (entry_at place entries) (sym (is.names (named_at first.name place)) ∙ first.there)

  pub signal_is_there : (key : TimerKey) (place : ℕ) → place_of places key ≡ Some place → is_some (entry_at place entries) ≡ true
  signal_is_there key place at =
      signal_some key (entry_at place entries) (sym (is.timers key place) ∙ ap (is_place place) at ∙ eqb-same place)

  pub all_unwanted : (w : Wanted) (classes : List Class) → NoneWanted w classes places → All (IsUnwanted w classes) (gots_in entries)
  all_unwanted w classes none =
      All-map (IsUnwanted w classes) (λ (e : Standing). e.1) entries
      (All-weaker (λ (e : Standing). entry_at e.0 entries ≡ Some e.1) (λ (e : Standing). IsUnwanted w classes e.1)
      (λ e at. none (named_at (name_of e.1) e.0) (named_there is e at)) entries (found entries is.ordered))

  pub no_signal_passed : (key : TimerKey) → place_of places key ≡ None
      → (false ≡ holds_signal_of key (gots_in entries)) × (gots_in entries ≡ without_signal key (gots_in entries))
  no_signal_passed key none =
      let nothing = list_any_none (is_signal_of key) (gots_in entries)
      (All-map (λ g. is_signal_of key g ≡ false) (λ (e : Standing). e.1) entries
      (All-weaker (λ (e : Standing). entry_at e.0 entries ≡ Some e.1) (λ (e : Standing). is_signal_of key e.1 ≡ false)
      (λ e at. sym (ap (has_signal_of key) at) ∙ sym (is.timers key e.0) ∙ ap (is_place e.0) none) entries (found entries is.ordered))) in
      (sym nothing, sym (none_left (is_signal_of key) (gots_in entries) nothing))
