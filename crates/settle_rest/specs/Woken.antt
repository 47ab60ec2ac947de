-- Who has something to do after a step, and which fuses wait then (Z.102: output, timer).
use Rattle.std.specs.Prelude.{ℕ, ◌<◌, ◌≤◌, List, [], ◌∷◌, All, Contains}
use Rattle.port_model.specs.declared.inbox.entry.Fuse.{Fuse}
use Rattle.sdl_timers.specs.DueOrder.{with_fuse}

-- these are numbers of instances: none is 0
abbrev pub AreNumbers : List ℕ → Type 0
AreNumbers ready = (number : ℕ) → Contains ready number → 0 < number

-- none is greater than this
abbrev pub AreUpTo : ℕ → List ℕ → Type 0
AreUpTo greatest ready = (number : ℕ) → Contains ready number → number ≤ greatest

-- ---- whom a step has sent something

-- it is among those that may have something to do; no instance has the number 0
abbrev pub IsAwake : List ℕ → ℕ → Type 0
IsAwake ready number = 0 < number → Contains ready number

abbrev pub AreAwake : List ℕ → List ℕ → Type 0
AreAwake ready receivers = All (IsAwake ready) receivers

-- ---- the fuses of a step

-- what waits, and these fuses more
abbrev pub with_fuses : List Fuse → List Fuse → List Fuse
with_fuses [] waiting = waiting
with_fuses (fuse ∷ more) waiting = with_fuse fuse (with_fuses more waiting)
