use Rattle.std.proofs.Common.{◌≡◌, All}
use Rattle.port_model.specs.Backlog.{waiting_in}
use Rattle.port_model.specs.Wanted.{IsUnwanted}
use Rattle.port_model.proofs.backlog.Backlog.pass_unwanted.Given as goal

abbrev pub invariant-loop : goal.invariant-loop
invariant-loop l = record {
  same : waiting_in l.self ≡ waiting_in l.fn.self;
  passed : All (IsUnwanted l.wanted l.selection) l.self.passed;
}
