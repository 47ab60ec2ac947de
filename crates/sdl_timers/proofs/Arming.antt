use Rattle.std.proofs.Common.{◌≡◌, ◌≢◌, ◌⊎◌, ℕ, zero, suc, ◌+◌, ◌<◌, ◌≤◌, ◌%◌, true, false, List, [], ◌∷◌, ◌++◌, length, get_or, set, refl, sym, ap, ◌∙◌, inl, ⊎_elim, arith}
use Rattle.std.proofs.lemmas.Bool.{cases_Bool, cond-false, cond-true, cond_both, true_from_ne_false, true≢false}
use Rattle.std.specs.List.{flat_map, All}
use Rattle.std.proofs.lemmas.Bool.Decides.{nat_tests}
use Rattle.std.proofs.lemmas.List.Elements.{All-nil, All-cons, All-tail, All-append}
use Rattle.port_model.specs.declared.inbox.entry.Fuse.{Fuse}
use Rattle.sdl_timers.specs.DueOrder.{is_before, with_fuse, IsInOrder}
use Rattle.sdl_timers.specs.Slots.{armed, AreSorted}
use Rattle.sdl_timers.proofs.Orders.{before_order}

-- no fuse of the list is due before this one; all of them are due after it; each is due before or after it
abbrev pub NoneBefore : Fuse → List Fuse → Type 0
NoneBefore fuse fuses = All (λ other. is_before other fuse ≡ false) fuses

abbrev pub AllAfter : Fuse → List Fuse → Type 0
AllAfter fuse fuses = All (λ other. is_before fuse other ≡ true) fuses

abbrev pub IsApart : Fuse → Fuse → Type 0
IsApart a b = (is_before a b ≡ true) ⊎ (is_before b a ≡ true)

abbrev pub AllApart : Fuse → List Fuse → Type 0
AllApart fuse fuses = All (λ other. IsApart fuse other) fuses

abbrev pub together : List (List Fuse) → List Fuse
together slots = flat_map (λ slot. slot) slots

-- what is due before a fuse is due before all that isn't due before that fuse
pub before_along : (a b c : Fuse) → is_before a b ≡ true → is_before c b ≡ false → is_before a c ≡ true
before_along a b c h g = true_from_ne_false (is_before a c) (λ e. true≢false (sym h ∙ before_order.chain a c b e g))

-- fuses of two times are apart
pub apart_by_time : (a b : Fuse) → a.due ≢ b.due → IsApart a b
apart_by_time a b h = grind (arith, nat_tests)

pub apart_by_slot : (a b : Fuse) → a.due % 256 ≢ b.due % 256 → IsApart a b
apart_by_slot a b h = apart_by_time a b (λ (e : a.due ≡ b.due). h (ap (λ (n : ℕ). n % 256) e))

-- the two cases of an arm
pub front : (fuse first : Fuse) (more : List Fuse) → is_before fuse first ≡ true → with_fuse fuse (first ∷ more) ≡ fuse ∷ first ∷ more
front fuse first more e = cond-true _ _ _ e

pub behind : (fuse first : Fuse) (more : List Fuse) → is_before fuse first ≡ false → with_fuse fuse (first ∷ more) ≡ first ∷ with_fuse fuse more
behind fuse first more e = cond-false _ _ _ e

pub armed_by : (P : List Fuse → Type 0) (fuse first : Fuse) (more : List Fuse)
    → (is_before fuse first ≡ true → P (fuse ∷ first ∷ more))
    → (is_before fuse first ≡ false → P (first ∷ with_fuse fuse more)) → P (with_fuse fuse (first ∷ more))
armed_by P fuse first more early late =
    cond_both (is_before fuse first) (fuse ∷ first ∷ more) (first ∷ with_fuse fuse more) P early late

-- what holds of a fuse and of what waits holds of all after it is armed
pub All-with_fuse : (P : Fuse → Type 0) (fuse : Fuse) (fuses : List Fuse) → P fuse → All P fuses → All P (with_fuse fuse fuses)
All-with_fuse P fuse [] mine all = All-cons P fuse [] mine all
All-with_fuse P fuse (first ∷ more) mine all =
    armed_by (All P) fuse first more (λ e. All-cons P fuse (first ∷ more) mine all)
    (λ e. All-cons P first (with_fuse fuse more) (all 0 first (omega arith))
    (All-with_fuse P fuse more mine (All-tail P first more all)))

pub All-armed : (P : Fuse → Type 0) (waiting fuses : List Fuse) → All P waiting → All P fuses → All P (armed waiting fuses)
All-armed P waiting [] all more = all
All-armed P waiting (fuse ∷ fuses) all more =
    All-armed P (with_fuse fuse waiting) fuses (All-with_fuse P fuse waiting (more 0 fuse (omega arith)) all)
    (All-tail P fuse fuses more)

-- an arm keeps the order
pub IsInOrder-with_fuse : (fuse : Fuse) (fuses : List Fuse) → IsInOrder fuses → IsInOrder (with_fuse fuse fuses)
IsInOrder-with_fuse fuse [] ordered = (All-nil (λ other. is_before other fuse ≡ false), tt)
IsInOrder-with_fuse fuse (first ∷ more) ordered =
    armed_by IsInOrder fuse first more (λ e.
    let back = before_order.one_way fuse first e in (
      All-cons (λ other. is_before other fuse ≡ false) first more back
          (λ k d lt. before_order.chain (get_or more k d) first fuse (ordered.0 k d lt) back),
      ordered,
    ))
    (λ e. let later = All-with_fuse (λ other. is_before other first ≡ false) fuse more e ordered.0 in
    (later, IsInOrder-with_fuse fuse more ordered.1))

-- two fuses that are apart may be armed in either order
swapped : (a b : Fuse) (fuses : List Fuse) → is_before a b ≡ true → with_fuse a (with_fuse b fuses) ≡ with_fuse b (with_fuse a fuses)
swapped a b [] h = front a b [] h ∙ sym (behind b a [] (before_order.one_way a b h))
swapped a b (first ∷ more) h =
    let last = behind b a (first ∷ more) (before_order.one_way a b h) in
    ⊎_elim (λ (e : is_before b first ≡ true).
    let both : is_before a first ≡ true = before_along a b first h (before_order.one_way b first e) in
    rw (front b first more e, front a b (first ∷ more) h, front a first more both, last, front b first more e))
    (λ (e : is_before b first ≡ false).
    ⊎_elim (λ (f : is_before a first ≡ true).
    rw (behind b first more e, front a first (with_fuse b more) f, front a first more f, last, behind b first more e))
    (λ (f : is_before a first ≡ false).
    let there = behind b first (with_fuse a more) e in
    rw (behind b first more e, behind a first (with_fuse b more) f, behind a first more f, there)
    (ap (λ (l : List Fuse). first ∷ l) (swapped a b more h))) (cases_Bool (is_before a first)))
    (cases_Bool (is_before b first))

swaps : (a b : Fuse) (fuses : List Fuse) → IsApart a b → with_fuse a (with_fuse b fuses) ≡ with_fuse b (with_fuse a fuses)
swaps a b fuses apart = ⊎_elim (swapped a b fuses) (λ (e : is_before b a ≡ true). sym (swapped b a fuses e)) apart

-- a fuse may be armed before or after others that are apart from it
armed_through : (fuse : Fuse) (waiting fuses : List Fuse) → AllApart fuse fuses → armed (with_fuse fuse waiting) fuses ≡ with_fuse fuse (armed waiting fuses)
armed_through fuse waiting [] apart = refl
armed_through fuse waiting (first ∷ more) apart =
    ap (λ (l : List Fuse). armed l more) (sym (swaps fuse first waiting (apart 0 first (omega arith))))
    ∙ armed_through fuse (with_fuse first waiting) more (All-tail (IsApart fuse) first more apart)

armed-append : (waiting xs ys : List Fuse) → armed waiting (xs ++ ys) ≡ armed (armed waiting xs) ys
armed-append waiting [] ys = refl
armed-append waiting (x ∷ xs) ys = armed-append (with_fuse x waiting) xs ys

-- to arm a fuse in its slot is to arm it
armed_in_slot : (fuse : Fuse) (waiting slot others : List Fuse) → IsInOrder slot → AllApart fuse others
    → armed waiting (with_fuse fuse slot ++ others) ≡ with_fuse fuse (armed waiting (slot ++ others))
armed_in_slot fuse waiting [] others ordered apart = armed_through fuse waiting others apart
armed_in_slot fuse waiting (first ∷ more) others ordered apart =
    armed_by (λ l. armed waiting (l ++ others) ≡ with_fuse fuse (armed waiting (first ∷ more ++ others)))
    fuse first more (λ e.
    let here : AllApart fuse (first ∷ more) =
    All-cons (IsApart fuse) first more (inl e)
    (λ k d lt. inl (before_along fuse first (get_or more k d) e (ordered.0 k d lt))) in
    armed_through fuse waiting (first ∷ more ++ others) (All-append (IsApart fuse) (first ∷ more) others here apart))
    (λ e. armed_in_slot fuse (with_fuse first waiting) more others ordered.1 apart)

-- the slots from one on hold no fuse of an earlier slot
later_slots : (from : ℕ) (slots : List (List Fuse)) → AreSorted from slots → All (λ fuse. from ≤ fuse.due % 256) (together slots)
later_slots from [] sorted = All-nil (λ fuse. from ≤ fuse.due % 256)
later_slots from (slot ∷ slots) sorted =
    let later = later_slots (from + 1) slots sorted.1 in
    All-append (λ fuse. from ≤ fuse.due % 256) slot (together slots) (λ k d lt. omega (arith, sorted.0 k d lt))
    (λ k d lt. omega (arith, later k d lt))

pub arms_slot : (from : ℕ) (slots : List (List Fuse)) (k : ℕ) (waiting : List Fuse) (fuse : Fuse) → AreSorted from slots → All IsInOrder slots → k < length slots → fuse.due % 256 ≡ from + k
    → armed waiting (together (set slots k (with_fuse fuse (get_or slots k [])))) ≡ with_fuse fuse (armed waiting (together slots))
arms_slot from [] k waiting fuse sorted ordered h e = absurd (omega arith)
arms_slot from (slot ∷ slots) zero waiting fuse sorted ordered h e =
    let later = later_slots (from + 1) slots sorted.1 in
    armed_in_slot fuse waiting slot (together slots) (ordered 0 slot (omega arith))
    (λ k d lt. apart_by_slot fuse (get_or (together slots) k d) (λ same. omega (arith, later k d lt)))
arms_slot from (slot ∷ slots) (suc k) waiting fuse sorted ordered h e =
    armed-append waiting slot (together (set slots k (with_fuse fuse (get_or slots k []))))
    ∙ arms_slot (from + 1) slots k (armed waiting slot) fuse sorted.1 (All-tail IsInOrder slot slots ordered) (omega arith) (omega arith)
    ∙ ap (with_fuse fuse) (sym (armed-append waiting slot (together slots)))

-- a fuse that is due before all others stands first
pub stands_first : (fuse : Fuse) (waiting : List Fuse) → AllAfter fuse waiting → with_fuse fuse waiting ≡ fuse ∷ waiting
stands_first fuse [] after = refl
stands_first fuse (first ∷ more) after = front fuse first more (after 0 first (omega arith))

stays_first : (fuse : Fuse) (waiting fuses : List Fuse) → NoneBefore fuse fuses → armed (fuse ∷ waiting) fuses ≡ fuse ∷ armed waiting fuses
stays_first fuse waiting [] none = refl
stays_first fuse waiting (first ∷ more) none =
    rw (behind first fuse waiting (none 0 first (omega arith)))
    (stays_first fuse (with_fuse first waiting) more (All-tail (λ other. is_before other fuse ≡ false) first more none))

pub NoneBefore-together : (fuse : Fuse) (slots : List (List Fuse)) → All (NoneBefore fuse) slots → NoneBefore fuse (together slots)
NoneBefore-together fuse [] none = All-nil (λ other. is_before other fuse ≡ false)
NoneBefore-together fuse (slot ∷ slots) none =
    All-append (λ other. is_before other fuse ≡ false) slot (together slots) (none 0 slot (omega arith))
    (NoneBefore-together fuse slots (All-tail (NoneBefore fuse) slot slots none))

pub fires_slot : (from : ℕ) (slots : List (List Fuse)) (k : ℕ) (waiting : List Fuse) (fuse : Fuse) (rest : List Fuse) → AreSorted from slots → All (NoneBefore fuse) slots → AllAfter fuse waiting
    → k < length slots → get_or slots k [] ≡ fuse ∷ rest → fuse.due % 256 ≡ from + k
    → armed waiting (together slots) ≡ fuse ∷ armed waiting (together (set slots k rest))
fires_slot from [] k waiting fuse rest sorted none after h is e = absurd (omega arith)
fires_slot from (slot ∷ slots) zero waiting fuse rest sorted none after h is e =
    let first : NoneBefore fuse (fuse ∷ rest) = rw is at (none 0 slot (omega arith)) in
    let all = NoneBefore-together fuse ((fuse ∷ rest) ∷ slots)
    (All-cons (NoneBefore fuse) (fuse ∷ rest) slots first (All-tail (NoneBefore fuse) slot slots none)) in
    ap (λ (l : List Fuse). armed waiting (l ++ together slots)) is
    ∙ ap (λ (l : List Fuse). armed l (rest ++ together slots)) (stands_first fuse waiting after)
    ∙ stays_first fuse waiting (rest ++ together slots)
    (All-tail (λ other. is_before other fuse ≡ false) fuse (rest ++ together slots) all)
fires_slot from (slot ∷ slots) (suc k) waiting fuse rest sorted none after h is e =
    let here : AllAfter fuse slot = λ place other b.
    let other_fuse = get_or slot place other in
    let early : other_fuse.due % 256 ≡ from = sorted.0 place other b in
    ⊎_elim (λ (f : is_before fuse other_fuse ≡ true). f)
    (λ (f : is_before other_fuse fuse ≡ true). absurd (true≢false (sym f ∙ none 0 slot (omega arith) place other b)))
    (apart_by_slot fuse other_fuse (λ (same : fuse.due % 256 ≡ other_fuse.due % 256). omega arith)) in
    rw (armed-append waiting slot (together slots), armed-append waiting slot (together (set slots k rest)))
    (fires_slot (from + 1) slots k (armed waiting slot) fuse rest sorted.1 (All-tail (NoneBefore fuse) slot slots none)
    (All-armed (λ other. is_before fuse other ≡ true) waiting slot after here) (omega arith) is (omega arith))
