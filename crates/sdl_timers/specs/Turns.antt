-- How a slot keeps its fuses.
use Rattle.std.specs.Prelude.{◌≡◌, ℕ, ◌<◌, List, All}
use Rattle.port_model.specs.declared.inbox.entry.Fuse.{Fuse}
use Rattle.sdl_timers.specs.declared.turn.Turn.{Turn}
use Rattle.sdl_timers.specs.DueOrder.{due_of}

-- a fuse has the turn of its due, and is one of those that were armed so far
abbrev pub HasItsTurn : ℕ → Turn × Fuse → Type 0
HasItsTurn armed entry = (entry.0.due ≡ due_of entry.1) × (entry.0.number < armed)

abbrev pub HaveTheirTurns : ℕ → List (Turn × Fuse) → Type 0
HaveTheirTurns armed entries = All (HasItsTurn armed) entries
