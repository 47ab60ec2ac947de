use Rattle.std.proofs.lemmas.List.Elements.{All-rest, All-same}
use Rattle.sdl_timers.specs.Turns.{HasItsTurn}
use Rattle.sdl_timers.proofs.slot.Slot.take_first.Goals.{in-Some, in-None}
use Rattle.sdl_timers.proofs.slot.Slot.take_first.Goals as goal

pub invariant_of-self : goal.invariant_of-self
invariant_of-self c = elim c.match-pop_first.branch [
  | in-Some w ↦ All-rest (HasItsTurn c.self.inside.armed) _ _ _ w.in-Some.ensures.removal c.self.invariant
  | in-None w ↦ All-same (HasItsTurn c.self.inside.armed) _ _ (w.in-None.ensures.unchanged) c.self.invariant
]
