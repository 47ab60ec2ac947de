use Rattle.std.proofs.Common.{◌≡◌, ℕ, zero, suc, ◌+◌, ◌<◌, ◌%◌, cond, nat_eq, List, [], ◌∷◌, Option, length, get_or, refl, arith}
use Rattle.std.specs.List.{All, count_by}
use Rattle.std.specs.Prelude.{sum_by}
use Rattle.std.proofs.lemmas.Bool.{cond_both}
use Rattle.std.proofs.lemmas.Bool.Decides.{nat_tests}
use Rattle.std.proofs.lemmas.List.Elements.{All-tail}
use Rattle.std.proofs.lemmas.List.Sums.{sum_by-append, sum_by-cons}
use Rattle.port_model.specs.declared.inbox.entry.Fuse.{Fuse}
use Rattle.sdl_timers.specs.declared.due.Due.{Due}
use Rattle.sdl_timers.specs.DueOrder.{is_before, with_fuse}
use Rattle.sdl_timers.specs.Slots.{armed, all_fuses, AreSorted, IsWheel}
use Rattle.sdl_timers.proofs.Arming.{together}

-- how many fuses are of the slot n: each counts once, wherever it is armed
abbrev one : ℕ → Fuse → ℕ
one n fuse = cond (nat_eq (fuse.due % 256) n) 1 0

abbrev amount : ℕ → List Fuse → ℕ
amount n fuses = sum_by (one n) fuses

amount-with_fuse : (n : ℕ) (fuse : Fuse) (fuses : List Fuse)
    → amount n (with_fuse fuse fuses) ≡ one n fuse + amount n fuses
amount-with_fuse n fuse [] = sum_by-cons (one n) fuse []
amount-with_fuse n fuse (first ∷ more) =
    let rest = amount-with_fuse n fuse more in
    let whole = sum_by-cons (one n) first more in
    let here = sum_by-cons (one n) first (with_fuse fuse more) in
    cond_both (is_before fuse first) (fuse ∷ first ∷ more) (first ∷ with_fuse fuse more)
    (λ l. amount n l ≡ one n fuse + amount n (first ∷ more))
    (λ e. sum_by-cons (one n) fuse (first ∷ more)) (λ e. omega arith)

amount-armed : (n : ℕ) (waiting fuses : List Fuse) → amount n (armed waiting fuses) ≡ amount n waiting + amount n fuses
amount-armed n waiting [] = omega arith
amount-armed n waiting (fuse ∷ fuses) =
    let rest = amount-armed n (with_fuse fuse waiting) fuses in
    let here = amount-with_fuse n fuse waiting in
    let whole = sum_by-cons (one n) fuse fuses in omega arith

-- of a slot's fuses all are of it, and none of another
amount_of : (from n : ℕ) (slot : List Fuse) → All (λ fuse. fuse.due % 256 ≡ from) slot
    → amount n slot ≡ cond (nat_eq from n) (length slot) 0
amount_of from n [] all = grind (arith, nat_tests)
amount_of from n (fuse ∷ fuses) all =
    let here : fuse.due % 256 ≡ from = all 0 fuse (omega arith) in
    let whole = sum_by-cons (one n) fuse fuses in
    let rest = amount_of from n fuses (All-tail (λ (f : Fuse). f.due % 256 ≡ from) fuse fuses all) in
    grind (arith, nat_tests)

amount_later : (from n : ℕ) (slots : List (List Fuse)) → n < from → AreSorted from slots → amount n (together slots) ≡ 0
amount_later from n [] h sorted = refl
amount_later from n (slot ∷ slots) h sorted =
    let here = amount_of from n slot sorted.0 in
    let rest = amount_later (from + 1) n slots (omega arith) sorted.1 in
    let whole = sum_by-append (one n) slot (together slots) in grind (arith, nat_tests)

amount_at : (from n k : ℕ) (slots : List (List Fuse)) → n ≡ from + k → k < length slots → AreSorted from slots
    → amount n (together slots) ≡ length (get_or slots k [])
amount_at from n k [] e h sorted = absurd (omega arith)
amount_at from n zero (slot ∷ slots) e h sorted =
    let here = amount_of from n slot sorted.0 in
    let rest = amount_later (from + 1) n slots (omega arith) sorted.1 in
    let whole = sum_by-append (one n) slot (together slots) in grind (arith, nat_tests)
amount_at from n (suc k) (slot ∷ slots) e h sorted =
    let here = amount_of from n slot sorted.0 in
    let rest = amount_at (from + 1) n k slots (omega arith) (omega arith) sorted.1 in
    let whole = sum_by-append (one n) slot (together slots) in grind (arith, nat_tests)

-- the fuses of a slot are those of its times
pub slot_length : (slots : List (List Fuse)) (entrants : List (Option Due)) (k : ℕ) → IsWheel slots entrants → k < 256
    → length (get_or slots k []) ≡ count_by (λ fuse. nat_eq (fuse.due % 256) k) (all_fuses slots)
slot_length slots entrants k wheel h =
    let long = wheel.long in
    let sorted = amount_at 0 k k slots (omega arith) (omega arith) wheel.sorted in
    let all : count_by (λ fuse. nat_eq (fuse.due % 256) k) (all_fuses slots) ≡ 0 + amount k (together slots) =
    amount-armed k [] (together slots) in omega arith
