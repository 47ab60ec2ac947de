-- The order in which fuses are due.
use Rattle.std.specs.Prelude.{◌≡◌, ℕ, ◌<◌, ◌≤◌, Bool, false, List, [], ◌∷◌, Option, Some, None, All, if◌then◌else◌}
use Rattle.std.specs.declared.cmp.Ordering.{Ordering}
use Rattle.std.specs.Ordering.{is_lt, nat_cmp, ordering_then}
use Rattle.port_model.specs.declared.inbox.entry.Fuse.{Fuse}
use Rattle.sdl_timers.specs.declared.due.Due.{Due}

-- Due order: by the time, then by the number of the port, then by that of the set.
abbrev pub due_cmp : Due → Due → Ordering
due_cmp a b = ordering_then (nat_cmp a.time b.time) (ordering_then (nat_cmp a.pid b.pid) (nat_cmp a.arm b.arm))

abbrev pub due_of : Fuse → Due
due_of fuse = record { time = fuse.due; pid = fuse.pid; arm = fuse.arm }

-- a fuse is due before another
abbrev pub is_before : Fuse → Fuse → Bool
is_before a b = is_lt (due_cmp (due_of a) (due_of b))

-- Arm: what waits, and one fuse more, which stands behind all that it isn't due before.
abbrev pub with_fuse : Fuse → List Fuse → List Fuse
with_fuse fuse [] = fuse ∷ []
with_fuse fuse (first ∷ more) = if is_before fuse first then fuse ∷ first ∷ more else first ∷ with_fuse fuse more

-- Fire: the first fuse is taken out, where its time is not after `to`. None is, where no fuse is due by then.
abbrev pub Fires : List Fuse → ℕ → Option Fuse → List Fuse → Type 0
Fires old to (Some fuse) new = (old ≡ fuse ∷ new) × (fuse.due ≤ to)
Fires old to None new = All (λ fuse. to < fuse.due) old × (new ≡ old)

-- no fuse stands behind one that it is due before
abbrev pub IsInOrder : List Fuse → Type 0
IsInOrder [] = Unit {0}
IsInOrder (first ∷ more) = All (λ fuse. is_before fuse first ≡ false) more × IsInOrder more

-- where the first of some fuses stands, if there is one
abbrev pub first_of : List Fuse → Option Due
first_of [] = None
first_of (first ∷ more) = Some (due_of first)

-- of two that may be there the one that is due first, and the left one of two that tie
abbrev pub earlier : Option Due → Option Due → Option Due
earlier None other = other
earlier (Some a) None = Some a
earlier (Some a) (Some b) = Some (if is_lt (due_cmp b a) then b else a)

-- the second isn't due before the first
abbrev pub IsUpTo : Option Due → Option Due → Type 0
IsUpTo first None = Unit {0}
IsUpTo None (Some b) = ⊥
IsUpTo (Some a) (Some b) = is_lt (due_cmp b a) ≡ false
