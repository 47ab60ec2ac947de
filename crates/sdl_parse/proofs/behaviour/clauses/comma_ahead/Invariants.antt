use Rattle.std.proofs.Common.{◌≡◌, ◌-◌, ◌≤◌, length}
use Rattle.sdl_parse.specs.Clauses.{comma_ahead}
use Rattle.sdl_parse.proofs.behaviour.clauses.comma_ahead.Given as goal

abbrev pub invariant-loop-turn : goal.invariant-loop-turn
invariant-loop-turn l = record {
  same : comma_ahead 0 l.fn.ahead ≡ comma_ahead l.inside l.ahead;
  within : l.inside ≤ l._turn;
  left : length l.ahead ≡ l._turn-end - l._turn;
}
