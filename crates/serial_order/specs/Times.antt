-- The times that the records tell, and the clock (Z.101: system).
use Rattle.std.specs.Prelude.{◌≡◌, ℕ, List, [], ◌∷◌}
use Rattle.serial_order.specs.Execution.{Expired, Happening, Heard, Moved, Ticked}
use Rattle.serial_order.specs.Told.{Moment, moment_after}
use Rattle.run_record.specs.Event as event
use Rattle.run_record.specs.Event.{Event}
use Rattle.run_semantics.specs.Effect.{Deed}

-- the time of an event, where it has one, is this
abbrev pub IsAt : ℕ → Event → Type 0
IsAt time (event.Start at) = at ≡ time
IsAt time (event.Consumed at got) = at ≡ time
IsAt time (event.Prior at got) = at ≡ time
IsAt time (event.Discarded at got) = at ≡ time
IsAt time (event.Provided at number) = at ≡ time
IsAt time (event.FailedAt at why) = at ≡ time
IsAt time happened = Unit {0}

-- so are those of several deeds
abbrev pub AreAt : ℕ → List Deed → Type 0
AreAt time [] = Unit {0}
AreAt time (deed ∷ rest) = IsAt time deed.event × AreAt time rest

-- the times of a step are the clock's, as it is made
abbrev pub IsTimed : Moment → Happening → Type 0
IsTimed now (Moved who deeds) = AreAt now.clock deeds
IsTimed now (Expired fuse) = Unit {0}
IsTimed now (Heard line effects) = Unit {0}
IsTimed now (Ticked time) = Unit {0}

-- so it is with all that happens from a moment on
abbrev pub AreTimed : Moment → List Happening → Type 0
AreTimed now [] = Unit {0}
AreTimed now (first ∷ rest) = IsTimed now first × AreTimed (moment_after now first) rest
