-- A slot's tree, by turns, and the list of fuses that callers see.
use Rattle.std.proofs.Common.{◌≡◌, ℕ, suc, ◌<◌, List, [], ◌∷◌, map, refl, sym, subst, ap, ◌∙◌, if◌then◌else◌, Some, arith}
use Rattle.std.specs.Prelude.{slice_get}
use Rattle.std.specs.BTreeMap.{insert_entry}
use Rattle.std.specs.Option.{option_map}
use Rattle.std.specs.Ordering.{is_lt, match_ordering, nat_cmp, ordering_then}
use Rattle.std.specs.declared.cmp.Ordering.{Ordering}
use Rattle.std.specs.declared.cmp.Ordering.TheVariants.{Less, Equal, Greater}
use Rattle.std.proofs.lemmas.List.Elements.{All-nil, All-cons, All-head, All-tail, All-weaker}
use Rattle.port_model.specs.declared.inbox.entry.Fuse.{Fuse}
use Rattle.sdl_timers.specs.declared.turn.Turn.{Turn}
use Rattle.sdl_timers.specs.DueOrder.{due_cmp, due_of, first_of, with_fuse}
use Rattle.sdl_timers.specs.Turns.{HasItsTurn, HaveTheirTurns}

abbrev pub Kept : Type 0
Kept = Turn × Fuse

abbrev pub turn_cmp : Turn → Turn → Ordering
turn_cmp a b = ordering_then (due_cmp a.due b.due) (nat_cmp a.number b.number)

-- the turn of a fuse, behind so many others
abbrev pub turn_of : Fuse → ℕ → Turn
turn_of fuse number = record { due = due_of fuse; number = number }

abbrev pub fuses_in : List Kept → List Fuse
fuses_in entries = map (λ entry. entry.1) entries

above : (armed number : ℕ) → number < armed → nat_cmp armed number ≡ Greater
above armed number lt = grind arith

-- a turn behind all others has none equal to it, and stands before another where its due does
two_ways : (P : List Kept → Type 0) (o n : Ordering) (before same behind : List Kept) → n ≡ Greater → P before → P behind
    → P (match_ordering (ordering_then o n) before same behind)
two_ways P Less n before same behind above a b = a
two_ways P Equal n before same behind above a b = subst (λ k. P (match_ordering k before same behind)) (sym above) b
two_ways P Greater n before same behind above a b = b

by_due : (o n : Ordering) (before same behind : List Kept) (x y : List Fuse) → n ≡ Greater → fuses_in before ≡ x → fuses_in behind ≡ y
    → fuses_in (match_ordering (ordering_then o n) before same behind) ≡ (if is_lt o then x else y)
by_due Less n before same behind x y above a b = a
by_due Equal n before same behind x y above a b = subst (λ k. fuses_in (match_ordering k before same behind) ≡ y) (sym above) b
by_due Greater n before same behind x y above a b = b

-- so to put it into the tree is to arm its fuse
pub armed_in : (armed : ℕ) (fuse : Fuse) (entries : List Kept) → HaveTheirTurns armed entries
    → fuses_in (insert_entry turn_cmp entries (turn_of fuse armed) fuse) ≡ with_fuse fuse (fuses_in entries)
armed_in armed fuse [] all = refl
armed_in armed fuse (e ∷ es) all =
    let mine : HasItsTurn armed e = All-head (HasItsTurn armed) e es all in
    let rest = armed_in armed fuse es (All-tail (HasItsTurn armed) e es all) in
    subst (λ d. fuses_in (insert_entry turn_cmp (e ∷ es) (turn_of fuse armed) fuse) ≡ (if is_lt (due_cmp (due_of fuse) d) then fuse ∷ fuses_in (e ∷ es) else e.1 ∷ with_fuse fuse (fuses_in es)))
    mine.0
    (by_due (due_cmp (due_of fuse) e.0.due) (nat_cmp armed e.0.number) _ _ _ _ _ (above armed e.0.number mine.1) refl (ap (λ (l : List Fuse). e.1 ∷ l) rest))

-- and each fuse has its turn then
pub turns_in : (armed : ℕ) (fuse : Fuse) (entries : List Kept) → HaveTheirTurns armed entries
    → HaveTheirTurns (suc armed) (insert_entry turn_cmp entries (turn_of fuse armed) fuse)
turns_in armed fuse [] all = All-cons (HasItsTurn (suc armed)) _ [] (refl, omega arith) (All-nil (HasItsTurn (suc armed)))
turns_in armed fuse (e ∷ es) all =
    let mine : HasItsTurn armed e = All-head (HasItsTurn armed) e es all in
    let rest = turns_in armed fuse es (All-tail (HasItsTurn armed) e es all) in
    let still : HaveTheirTurns (suc armed) (e ∷ es) = All-weaker (HasItsTurn armed) (HasItsTurn (suc armed)) (λ x h. (h.0, omega (arith, h.1))) (e ∷ es) all in
    two_ways (HaveTheirTurns (suc armed)) (due_cmp (due_of fuse) e.0.due) (nat_cmp armed e.0.number) _ _ _ (above armed e.0.number mine.1)
    (All-cons (HasItsTurn (suc armed)) (turn_of fuse armed, fuse) (e ∷ es) (refl, omega arith) still)
    (All-cons (HasItsTurn (suc armed)) e _ (All-head (HasItsTurn (suc armed)) e es still) rest)

-- the first entry has the first fuse's due
pub first_in : (armed : ℕ) (turn : Turn) (fuse : Fuse) (entries : List Kept) → HaveTheirTurns armed entries → slice_get entries 0 ≡ Some (turn, fuse)
    → Some turn.due ≡ first_of (fuses_in entries)
first_in armed turn fuse [] all is = absurd cc
first_in armed turn fuse (e ∷ es) all is =
    let mine : HasItsTurn armed e = All-head (HasItsTurn armed) e es all in
    ap (option_map (λ (entry : Kept). entry.0.due)) (sym is) ∙ ap (λ d. Some d) mine.0
