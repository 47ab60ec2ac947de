use Rattle.std.proofs.Common.{◌≡◌, ℕ, zero, suc, ◌+◌, ◌<◌, ◌≤◌, ◌%◌, true, false, List, [], ◌∷◌, Option, Some, None, map, length, replicate, get_or, set, refl, sym, ap, ◌∙◌, subst, length-set, arith}
use Rattle.std.specs.List.{All, Contains}
use Rattle.std.specs.Option.{IfSome, MatchOption}
use Rattle.std.proofs.Math.ListN.{get_or-map}
use Rattle.std.proofs.lemmas.Bool.Decides.{nat_tests}
use Rattle.std.proofs.lemmas.List.{get_or_default, map-set}
use Rattle.std.proofs.lemmas.List.Elements.{All-nil, All-cons, All-tail, All-set, All-weaker, All-map, All-get_or, All-from_get_or, Contains-get_or}
use Rattle.port_model.specs.declared.inbox.entry.Fuse.{Fuse}
use Rattle.sdl_timers.specs.declared.due.Due.{Due}
use Rattle.sdl_timers.specs.DueOrder.{due_of, first_of, is_before, with_fuse, Fires, IsInOrder, IsUpTo}
use Rattle.sdl_timers.specs.Slots.{armed, all_fuses, AreSorted, IsWheel}
use Rattle.sdl_timers.specs.Tournament.{node_at, IsLeastOf}
use Rattle.sdl_timers.proofs.Orders.{before_order}
use Rattle.sdl_timers.proofs.Arming.{together, NoneBefore, NoneBefore-together, All-armed, All-with_fuse, IsInOrder-with_fuse, arms_slot, fires_slot}

-- a slot of a fuse has a first one
head_of : (slot : List Fuse) (due : Due) → first_of slot ≡ Some due → (fuse : Fuse) × (rest : List Fuse) × (slot ≡ fuse ∷ rest) × (due_of fuse ≡ due)
head_of [] due e = cc
head_of (first ∷ more) due e = (first, more, refl, cc)

-- what isn't later than the first of a slot has none of the slot before it
none_before : (fuse : Fuse) (slot : List Fuse) → IsInOrder slot → IsUpTo (Some (due_of fuse)) (first_of slot) → NoneBefore fuse slot
none_before fuse [] ordered first = All-nil (λ other. is_before other fuse ≡ false)
none_before fuse (head ∷ more) ordered first =
    All-cons (λ other. is_before other fuse ≡ false) head more first
    (λ place other b. before_order.chain (get_or more place other) head fuse (ordered.0 place other b) first)

AreSorted-get_or : (from : ℕ) (slots : List (List Fuse)) (k : ℕ) → k < length slots → AreSorted from slots → All (λ fuse. fuse.due % 256 ≡ from + k) (get_or slots k [])
AreSorted-get_or from [] k h sorted = absurd (omega arith)
AreSorted-get_or from (slot ∷ slots) zero h sorted = λ j d lt. omega (arith, sorted.0 j d lt)
AreSorted-get_or from (slot ∷ slots) (suc k) h sorted =
    let rest = AreSorted-get_or (from + 1) slots k (omega arith) sorted.1 in λ j d lt. omega (arith, rest j d lt)

AreSorted-set : (from : ℕ) (slots : List (List Fuse)) (k : ℕ) (slot : List Fuse) → AreSorted from slots → All (λ fuse. fuse.due % 256 ≡ from + k) slot → AreSorted from (set slots k slot)
AreSorted-set from [] k slot sorted new = tt
AreSorted-set from (old ∷ slots) zero slot sorted new = ((λ j d lt. omega (arith, new j d lt)), sorted.1)
AreSorted-set from (old ∷ slots) (suc k) slot sorted new =
    (sorted.0, AreSorted-set (from + 1) slots k slot sorted.1 (λ j d lt. omega (arith, new j d lt)))

-- a wheel with another slot
pub changed : (slots : List (List Fuse)) (entrants : List (Option Due)) (k : ℕ) (slot : List Fuse) → IsWheel slots entrants → All (λ fuse. fuse.due % 256 ≡ k) slot → IsInOrder slot
    → IsWheel (set slots k slot) (set entrants k (first_of slot))
changed slots entrants k slot wheel sorted ordered = record {
  long = length-set slots k slot ∙ wheel.long;
  sorted = AreSorted-set 0 slots k slot wheel.sorted (λ j d lt. omega (arith, sorted j d lt));
  ordered = All-set IsInOrder slots k slot ordered wheel.ordered;
  entered = ap (λ (l : List (Option Due)). set l k (first_of slot)) wheel.entered ∙ sym (map-set first_of slots k slot);
}

-- what waits in a slot
pub of_slot : (slots : List (List Fuse)) (entrants : List (Option Due)) (k : ℕ) → IsWheel slots entrants → k < 256 → All (λ fuse. fuse.due % 256 ≡ k) (get_or slots k []) × IsInOrder (get_or slots k [])
of_slot slots entrants k wheel h =
    let long = wheel.long in
    let sorted = AreSorted-get_or 0 slots k (omega arith) wheel.sorted in
    ((λ j d lt. omega (arith, sorted j d lt)), All-get_or IsInOrder slots k [] (omega arith) wheel.ordered)

-- the entrants of the tournament are the slots' first fuses
entrant_at : (slots : List (List Fuse)) (entrants : List (Option Due)) (k : ℕ) → IsWheel slots entrants → node_at entrants k ≡ first_of (get_or slots k [])
entrant_at slots entrants k wheel = ap (λ (l : List (Option Due)). node_at l k) wheel.entered ∙ get_or-map first_of slots k []

-- the first of all fuses, where the tournament has one
pub record HasFirst (slots : List (List Fuse)) (due : Due) : Type 0 where
  pub fuse : Fuse
  pub rest : List Fuse
  pub slot : get_or slots (due.time % 256) [] ≡ fuse ∷ rest
  pub place : due_of fuse ≡ due
  pub none : NoneBefore fuse (all_fuses slots)
  pub all : all_fuses slots ≡ fuse ∷ all_fuses (set slots (due.time % 256) rest)

pub first_fuse : (slots : List (List Fuse)) (entrants : List (Option Due)) (due : Due) → IsWheel slots entrants → IsLeastOf entrants (Some due) → HasFirst slots due
first_fuse slots entrants due wheel least =
    let k : ℕ = least.entrant in
    let long = wheel.long in
    let below = least.below in
    let head = head_of (get_or slots k []) due (sym (entrant_at slots entrants k wheel) ∙ least.among) in
    let fuse : Fuse = head.0 in
    let rest : List Fuse = head.1 in
    let old : All (λ other. other.due % 256 ≡ k) (fuse ∷ rest) =
    rw head.2 at (of_slot slots entrants k wheel below).0 in
    let sorted : fuse.due % 256 ≡ k = old 0 fuse (omega arith) in
    let here : k ≡ due.time % 256 = sym sorted ∙ ap (λ (d : Due). d.time % 256) head.3 in
    let none : All (NoneBefore fuse) slots = All-from_get_or (NoneBefore fuse) slots [] (λ j b.
    let first : IsUpTo (Some due) (first_of (get_or slots j [])) =
    rw (entrant_at slots entrants j wheel) at (least.first j (omega arith)) in
    none_before fuse (get_or slots j []) (All-get_or IsInOrder slots j [] b wheel.ordered) (rw head.3 first)) in
    record {
      fuse = fuse;
      rest = rest;
      slot = subst (λ (n : ℕ). get_or slots n [] ≡ fuse ∷ rest) here head.2;
      place = head.3;
      none = All-armed (λ other. is_before other fuse ≡ false) [] (together slots) (All-nil (λ other. is_before other fuse ≡ false)) (NoneBefore-together fuse slots none);
      all = subst (λ (n : ℕ). all_fuses slots ≡ fuse ∷ all_fuses (set slots n rest)) here
          (fires_slot 0 slots k [] fuse rest wheel.sorted none (All-nil (λ other. is_before fuse other ≡ true)) (omega arith) head.2 (omega arith));
    }

-- and there is none where it has none
none_in : (slot : List Fuse) → IsUpTo None (first_of slot) → slot ≡ []
none_in [] h = refl
none_in (first ∷ more) h = absurd h

none_together : (slots : List (List Fuse)) → All (λ slot. slot ≡ []) slots → together slots ≡ []
none_together [] none = refl
none_together (slot ∷ slots) none =
    rw (none 0 slot (omega arith)) (none_together slots (All-tail (λ s. s ≡ []) slot slots none))

pub no_fuse : (slots : List (List Fuse)) (entrants : List (Option Due)) → IsWheel slots entrants → IsLeastOf entrants None → all_fuses slots ≡ []
no_fuse slots entrants wheel least =
    let long = wheel.long in
    ap (armed []) (none_together slots (All-from_get_or (λ s. s ≡ []) slots [] (λ j b.
    none_in (get_or slots j []) (rw (entrant_at slots entrants j wheel) at (least.first j (omega arith))))))

-- an empty wheel
empty_sorted : (from : ℕ) (slots : List (List Fuse)) → All (λ slot. slot ≡ []) slots → AreSorted from slots
empty_sorted from [] empty = tt
empty_sorted from (slot ∷ slots) empty = (
  rw (empty 0 slot (omega arith)) (All-nil (λ fuse. fuse.due % 256 ≡ from)),
  empty_sorted (from + 1) slots (All-tail (λ s. s ≡ []) slot slots empty),
)

empty_entered : (slots : List (List Fuse)) → All (λ slot. slot ≡ []) slots → replicate (length slots) None ≡ map first_of slots
empty_entered [] empty = refl
empty_entered (slot ∷ slots) empty =
    rw (empty 0 slot (omega arith))
    (ap (λ (l : List (Option Due)). None ∷ l) (empty_entered slots (All-tail (λ s. s ≡ []) slot slots empty)))

pub empty_wheel : (slots : List (List Fuse)) (entrants : List (Option Due)) → length slots ≡ 256 → entrants ≡ replicate 256 None → All (λ slot. slot ≡ []) slots
    → IsWheel slots entrants × (all_fuses slots ≡ [])
empty_wheel slots entrants long none empty = (
  record {
    long = long;
    sorted = empty_sorted 0 slots empty;
    ordered = All-weaker (λ s. s ≡ []) IsInOrder (λ s e. subst IsInOrder (sym e) tt) slots empty;
    entered = none ∙ ap (λ (n : ℕ). replicate n None) (sym long) ∙ empty_entered slots empty;
  },
  ap (armed []) (none_together slots empty),
)

-- a fuse that isn't due before another is due no earlier
pub no_earlier : (a b : Fuse) → is_before b a ≡ false → a.due ≤ b.due
no_earlier a b h = grind (arith, nat_tests)

abbrev pub times : List Fuse → List ℕ
times fuses = map (λ fuse. fuse.due) fuses

-- the tournament has the least time
pub least_time : (slots : List (List Fuse)) (entrants : List (Option Due)) (due : Due) → IsWheel slots entrants → IsLeastOf entrants (Some due)
    → Contains (times (all_fuses slots)) due.time × All (λ time. due.time ≤ time) (times (all_fuses slots))
least_time slots entrants due wheel least =
    let first = first_fuse slots entrants due wheel least in
    let fuse : Fuse = first.fuse in
    let more : List Fuse = all_fuses (set slots (due.time % 256) first.rest) in
    let time : fuse.due ≡ due.time = ap (λ (d : Due). d.time) first.place in (
      subst (λ (l : List Fuse). Contains (times l) due.time) (sym first.all) (subst (Contains (times (fuse ∷ more))) time (Contains-get_or (times (fuse ∷ more)) 0 0 (omega arith))),
      All-map (λ time. due.time ≤ time) (λ (f : Fuse). f.due) (all_fuses slots) (λ place other b.
          let e = no_earlier fuse (get_or (all_fuses slots) place other) (first.none place other b) in omega arith),
    )

-- no fuse is due by a time before the least one
pub not_due : (slots : List (List Fuse)) (entrants : List (Option Due)) (due : Due) (to : ℕ) → IsWheel slots entrants → IsLeastOf entrants (Some due) → to < due.time
    → All (λ fuse. to < fuse.due) (all_fuses slots)
not_due slots entrants due to wheel least h place other b =
    let first = first_fuse slots entrants due wheel least in
    let time : first.fuse.due ≡ due.time = ap (λ (d : Due). d.time) first.place in
    let e = no_earlier first.fuse (get_or (all_fuses slots) place other) (first.none place other b) in
    omega arith

-- the wheel with one fuse more, after the slot n was changed, with what the code knows of it
pub arms_in : (slots : List (List Fuse)) (entrants entered : List (Option Due)) (fuse : Fuse) (k n : ℕ) (slot new : List Fuse) (first : Option Due) → IsWheel slots entrants → k ≡ fuse.due % 256 → n ≡ k
    → new ≡ with_fuse fuse (get_or slots n slot) → first ≡ first_of new → entered ≡ set entrants k first
    → IsWheel (set slots n new) entered × (all_fuses (set slots n new) ≡ with_fuse fuse (all_fuses slots))
arms_in slots entrants entered fuse k n slot new first wheel hash here new_is first_is entered_is =
    let long = wheel.long in
    let old = of_slot slots entrants k wheel (omega arith) in
    let wider = All-with_fuse (λ other. other.due % 256 ≡ k) fuse (get_or slots k []) (sym hash) old.0 in
    rw (entered_is, first_is, new_is, here, get_or_default slots k slot [] (omega arith)) (
      changed slots entrants k (with_fuse fuse (get_or slots k [])) wheel wider
          (IsInOrder-with_fuse fuse (get_or slots k []) old.1),
      arms_slot 0 slots k [] fuse wheel.sorted wheel.ordered (omega arith) (omega arith),
    )

pub record HasFired (slots : List (List Fuse)) (fired : List (List Fuse)) (entered : List (Option Due)) (due : Due) (result : Option Fuse) : Type 0 where
  pub wheel : IsWheel fired entered
  pub fires : (to : ℕ) → due.time ≤ to → Fires (all_fuses slots) to result (all_fuses fired)
  pub first : IfSome result (λ fuse. NoneBefore fuse (all_fuses slots))

-- what is taken of a list that has a first one
taken_first : (result : Option Fuse) (old new : List Fuse) (fuse : Fuse) (rest : List Fuse)
    → MatchOption result ((old ≡ []) × (new ≡ [])) (λ taken. old ≡ taken ∷ new) → old ≡ fuse ∷ rest →
    (result ≡ Some fuse) × (new ≡ rest)
taken_first None old new fuse rest taken at = let empty = taken.0 in cc
taken_first (Some first) old new fuse rest taken at = (cc, cc)

pub fires_in : (slots : List (List Fuse)) (entrants entered : List (Option Due)) (due : Due) (k n : ℕ) (slot new : List Fuse) (first : Option Due) (result : Option Fuse) → IsWheel slots entrants → IsLeastOf entrants (Some due)
    → k ≡ due.time % 256 → n ≡ k → MatchOption result ((get_or slots n slot ≡ []) × (new ≡ [])) (λ fuse. get_or slots n slot ≡ fuse ∷ new) → first ≡ first_of new → entered ≡ set entrants k first
    → HasFired slots (set slots n new) entered due result
fires_in slots entrants entered due k n slot new first result wheel least hash here taken first_is entered_is =
    let m : ℕ = due.time % 256 in
    let long = wheel.long in
    let head = first_fuse slots entrants due wheel least in
    let at = get_or_default slots n slot [] (omega arith) ∙ ap (λ (j : ℕ). get_or slots j []) (here ∙ hash)
    ∙ head.slot in
    let got = taken_first result (get_or slots n slot) new head.fuse head.rest taken at in
    let old = of_slot slots entrants m wheel (omega arith) in
    let sorted : All (λ other. other.due % 256 ≡ m) (head.fuse ∷ head.rest) = rw head.slot at old.0 in
    let ordered : IsInOrder (head.fuse ∷ head.rest) = rw head.slot at old.1 in
    let time = ap (λ (d : Due). d.time) head.place in
    rw (got.0, entered_is, first_is, got.1, here, hash) record {
      wheel = changed slots entrants m head.rest wheel
          (All-tail (λ other. other.due % 256 ≡ m) head.fuse head.rest sorted) ordered.1;
      fires = λ to h. (head.all, omega arith);
      first = head.none;
    }
