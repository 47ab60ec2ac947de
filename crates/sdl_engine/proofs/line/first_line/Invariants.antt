use Rattle.std.proofs.Common.{◌≢◌, take, All}
use Rattle.sdl_engine.proofs.line.first_line.Given as goal

abbrev pub invariant-loop-at : goal.invariant-loop-at
invariant-loop-at l = All (λ b. b ≢ 10) (take l.at l.text)
