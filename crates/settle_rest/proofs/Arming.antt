-- The fuses that wait, with those of a step.
use Rattle.std.proofs.Common.{◌≡◌, ◌+◌, ◌<◌, ◌≤◌, ℕ, Bool, true, false, List, [], ◌∷◌, ◌++◌, All, ap, arith, if◌then◌else◌, refl}
use Rattle.std.proofs.lemmas.List.Elements.{All-cons, All-head, All-nil, All-tail}
use Rattle.port_model.specs.declared.inbox.entry.Fuse.{Fuse}
use Rattle.sdl_timers.specs.DueOrder.{is_before, with_fuse}
use Rattle.serial_sweeps.specs.Sweeps.{IsNoFuseBefore}
use Rattle.settle_rest.specs.Woken.{with_fuses}

-- where a fuse is among others: at the front or after it
placed : (until : ℕ) (fuse first : Fuse) (more later : List Fuse) (before : Bool) → until ≤ fuse.due
    → IsNoFuseBefore until (first ∷ more) → IsNoFuseBefore until later
    → IsNoFuseBefore until (if before then fuse ∷ first ∷ more else first ∷ later)
placed until fuse first more later true late all behind =
    All-cons (λ (one : Fuse). until ≤ one.due) fuse (first ∷ more) late all
placed until fuse first more later false late all behind =
    All-cons (λ (one : Fuse). until ≤ one.due) first later
    (All-head (λ (one : Fuse). until ≤ one.due) first more all) behind

-- one fuse more
none_before_with : (until : ℕ) (fuse : Fuse) (fuses : List Fuse) → until ≤ fuse.due → IsNoFuseBefore until fuses
    → IsNoFuseBefore until (with_fuse fuse fuses)
none_before_with until fuse [] late all =
    All-cons (λ (one : Fuse). until ≤ one.due) fuse [] late (All-nil (λ (one : Fuse). until ≤ one.due))
none_before_with until fuse (first ∷ more) late all =
    placed until fuse first more (with_fuse fuse more) (is_before fuse first) late all
    (none_before_with until fuse more late (All-tail (λ (one : Fuse). until ≤ one.due) first more all))

-- the fuses of a step, whose time is after the clock's
pub none_before_all : (until clock : ℕ) (fuses waiting : List Fuse) → until ≤ clock + 1
    → All (λ (one : Fuse). clock < one.due) fuses → IsNoFuseBefore until waiting
    → IsNoFuseBefore until (with_fuses fuses waiting)
none_before_all until clock [] waiting low late all = all
none_before_all until clock (fuse ∷ more) waiting low late all =
    let here : clock < fuse.due = All-head (λ (one : Fuse). clock < one.due) fuse more late in
    none_before_with until fuse (with_fuses more waiting) (omega arith)
    (none_before_all until clock more waiting low (All-tail (λ (one : Fuse). clock < one.due) fuse more late) all)

-- the last of them is armed first
pub with_last : (fuses : List Fuse) (last : Fuse) (waiting : List Fuse)
    → with_fuses (fuses ++ last ∷ []) waiting ≡ with_fuses fuses (with_fuse last waiting)
with_last [] last waiting = refl
with_last (fuse ∷ more) last waiting = ap (with_fuse fuse) (with_last more last waiting)
