use Rattle.std.proofs.Common.{◌≡◌, true}
use Rattle.test_interp.proofs.port.timers.spent_fuses_go.Given as goal

abbrev pub invariant-loop-due : goal.invariant-loop-due
invariant-loop-due g l = l.port.state.alive ≡ true
