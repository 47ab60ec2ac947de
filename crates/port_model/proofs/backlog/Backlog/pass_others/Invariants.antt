use Rattle.std.proofs.Common.{◌≡◌, false}
use Rattle.port_model.specs.Backlog.{waiting_in}
use Rattle.port_model.specs.Passed.{holds_signal_of}
use Rattle.port_model.proofs.backlog.Backlog.pass_others.Given as goal

abbrev pub invariant-loop : goal.invariant-loop
invariant-loop l = record {
  same : waiting_in l.self ≡ waiting_in l.fn.self;
  passed : holds_signal_of l.key l.self.passed ≡ false;
}
