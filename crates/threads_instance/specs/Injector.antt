-- The common queue of a run, the workers that sleep, and what a worker is told.
use Rattle.std.specs.Prelude.{◌≡◌, ◌==◌, ◌≤◌, ◌/◌, ◌++◌, ◌∷◌, [], ℕ, Bool, true, false, not, List, MatchOption, None, Option, length, max, min, take, drop}
use Rattle.std.specs.List.{filter}
use Rattle.threads_instance.specs.declared.queue.injector.TheConstants.{MOST_TAKEN}
use Rattle.threads_instance.specs.declared.queue.injector.Turn.{Turn}
use Rattle.threads_instance.specs.declared.queue.injector.Turn.TheVariants as turn

-- The numbers that are queued, the first one first; the workers that sleep, in the order in which they fell asleep; of
-- how many workers there are; and whether the run is over.
pub record InjectorState : Type 0 where
  pub queue : List ℕ
  pub asleep : List ℕ
  pub workers : ℕ
  pub closed : Bool

-- How many of the numbers that wait are the part of one of the workers: as many as each gets, but one at least.
abbrev pub part : ℕ → ℕ → ℕ
part workers waiting = min (max (min (waiting / max workers 1) MOST_TAKEN) 1) waiting

-- How many numbers a worker that has so many gives where so many wait.
abbrev pub given : ℕ → ℕ → ℕ
given own waiting = min (min own waiting) MOST_TAKEN

-- How many it takes: as many as it gives, and its part at least.
abbrev pub taken : ℕ → ℕ → ℕ → ℕ
taken workers own waiting = max (given own waiting) (part workers waiting)

-- A worker's first numbers are at the end of the common queue now, and those from its front are the worker's first
-- ones. All others are where they were, in their order. Who sleeps is as it was.
abbrev pub IsExchanged : InjectorState → List ℕ → InjectorState → List ℕ → Type 0
IsExchanged old own new own' =
    let gives = given (length own) (length old.queue) in
    let takes = taken old.workers (length own) (length old.queue) in
    (own' ≡ take takes old.queue ++ drop gives own)
    × (new ≡ record old { queue = drop takes old.queue ++ take gives own })

-- those that sleep, but for this worker: it is awake, also where it woke by itself
abbrev pub without : ℕ → List ℕ → List ℕ
without me asleep = filter (λ other. not (other == me)) asleep

-- One of those that slept is to be unparked, the one that fell asleep last, and it alone sleeps no more. Nobody is,
-- only where nobody slept.
abbrev pub IsWoken : Option ℕ → List ℕ → List ℕ → Type 0
IsWoken wake slept asleep =
    MatchOption wake ((slept ≡ []) × (asleep ≡ [])) (λ worker. slept ≡ asleep ++ worker ∷ [])

-- What a worker is told. It works, where the run isn't over and something was queued. It sleeps, where the run isn't
-- over and nothing was queued: `rest` says whether all of the workers sleep. It ends, where the run is over.
abbrev pub IsTold : Turn → InjectorState → InjectorState → Type 0
IsTold (turn.Work wake) old new = (old.closed ≡ false) × (1 ≤ length old.queue)
IsTold (turn.Sleep rest) old new =
    (old.closed ≡ false) × (old.queue ≡ []) × (rest ≡ (length new.asleep == new.workers))
IsTold (turn.End wake) old new = old.closed ≡ true

-- Who sleeps after a worker is told its turn. It is awake itself, unless it is told to sleep: then it is the last one.
-- If it works, one of the others is to be unparked where numbers are left, and nobody where none is. If it ends, one of
-- the others is to be unparked. Whoever isn't sleeps on.
abbrev pub AreAsleep : ℕ → Turn → InjectorState → InjectorState → Type 0
AreAsleep me (turn.Work wake) old new =
    (1 ≤ length new.queue → IsWoken wake (without me old.asleep) new.asleep)
    × (new.queue ≡ [] → (wake ≡ None) × (new.asleep ≡ without me old.asleep))
AreAsleep me (turn.Sleep rest) old new = new.asleep ≡ without me old.asleep ++ me ∷ []
AreAsleep me (turn.End wake) old new = IsWoken wake (without me old.asleep) new.asleep

-- who is told to work has a number in its own queue
abbrev pub HasWork : Turn → List ℕ → Type 0
HasWork (turn.Work wake) own = 1 ≤ length own
HasWork (turn.Sleep rest) own = Unit {0}
HasWork (turn.End wake) own = Unit {0}

-- Where the numbers are after a worker is told its turn. If it works, its part is at the end of its own queue, and no
-- longer in the common one. Else each queue is as it was.
abbrev pub IsServed : Turn → InjectorState → List ℕ → InjectorState → List ℕ → Type 0
IsServed (turn.Work wake) old own new own' =
    let takes = part old.workers (length old.queue) in
    (own' ≡ own ++ take takes old.queue) × (new.queue ≡ drop takes old.queue)
IsServed (turn.Sleep rest) old own new own' = (own' ≡ own) × (new.queue ≡ old.queue)
IsServed (turn.End wake) old own new own' = (own' ≡ own) × (new.queue ≡ old.queue)
