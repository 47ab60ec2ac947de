use Rattle.std.proofs.Common.{◌≡◌, ◌≤◌, ℕ, length}
use Rattle.std.specs.Prelude.{Contains}
use Rattle.settle_rest.specs.Woken.{AreNumbers}
use Rattle.settle_rest.proofs.instances.Rest.wake_created.Given as goal

abbrev pub invariant-loop-ticket : goal.invariant-loop-ticket
invariant-loop-ticket g l = record {
  numbers : AreNumbers l.fn.agenda.ready → AreNumbers l.agenda.ready;
  kept : (n : ℕ) → Contains l.fn.agenda.ready n → Contains l.agenda.ready n;
  clock : l.agenda.clock ≡ l.fn.agenda.clock;
  fuses : l.agenda.fuses ≡ l.fn.agenda.fuses;
  environment : l.self.environment ≡ l.fn.self.environment;
  given : l.fn.self.given ≤ l.self.given;
}

abbrev pub decreases-loop-ticket : goal.decreases-loop-ticket
decreases-loop-ticket g l = length l.self.own.now.hand.items
