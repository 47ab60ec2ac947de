-- The fuses that wait, with one more.
use Rattle.std.proofs.Common.{ℕ, ◌≤◌, Bool, true, false, List, [], ◌∷◌, if◌then◌else◌}
use Rattle.std.proofs.lemmas.List.Elements.{All-cons, All-head, All-nil, All-tail}
use Rattle.port_model.specs.declared.inbox.entry.Fuse.{Fuse}
use Rattle.serial_order.specs.Execution.{IsNoFuseBefore}
use Rattle.sdl_timers.specs.DueOrder.{is_before, with_fuse}

-- where a fuse stands among others: at the front or behind it
placed : (until : ℕ) (fuse first : Fuse) (more later : List Fuse) (before : Bool) → until ≤ fuse.due
    → IsNoFuseBefore until (first ∷ more) → IsNoFuseBefore until later
    → IsNoFuseBefore until (if before then fuse ∷ first ∷ more else first ∷ later)
placed until fuse first more later true late all behind =
    All-cons (λ (one : Fuse). until ≤ one.due) fuse (first ∷ more) late all
placed until fuse first more later false late all behind =
    All-cons (λ (one : Fuse). until ≤ one.due) first later
    (All-head (λ (one : Fuse). until ≤ one.due) first more all) behind

-- a fuse that isn't due is armed
pub fuses-armed : (until : ℕ) (fuse : Fuse) (fuses : List Fuse) → until ≤ fuse.due → IsNoFuseBefore until fuses
    → IsNoFuseBefore until (with_fuse fuse fuses)
fuses-armed until fuse [] late all =
    All-cons (λ (one : Fuse). until ≤ one.due) fuse [] late (All-nil (λ (one : Fuse). until ≤ one.due))
fuses-armed until fuse (first ∷ more) late all =
    placed until fuse first more (with_fuse fuse more) (is_before fuse first) late all
    (fuses-armed until fuse more late (All-tail (λ (one : Fuse). until ≤ one.due) first more all))
