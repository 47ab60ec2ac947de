use Rattle.std.proofs.Common.{◌≡◌, ◌<◌, ℕ, false}
use Rattle.view_timeline.specs.Events.{has_number, reached}
use Rattle.view_timeline.proofs.events.Events.place_of.Given as goal

abbrev pub invariant-loop-place : goal.invariant-loop-place
invariant-loop-place l = record {
  none : (place : ℕ) → place < l.place → has_number l.number (reached l.self place) ≡ false;
}
