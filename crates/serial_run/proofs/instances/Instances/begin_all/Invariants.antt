use Rattle.std.proofs.Common.{◌≡◌, ◌+◌, ◌++◌}
use Rattle.serial_order.specs.RunState.{first_of}
use Rattle.serial_run.specs.Serial.{IsSerial}
use Rattle.serial_run.proofs.instances.Instances.begin_all.Given as goal

abbrev pub invariant-loop : goal.invariant-loop
invariant-loop l = record {
  serial : IsSerial l.agenda.ready l.self;
  system : l.self.system ≡ l.fn.self.system;
  clock : l.agenda.clock ≡ l.fn.agenda.clock;
  fuses : l.agenda.fuses ≡ l.fn.agenda.fuses;
  given : l.self.living.given ≡ l.fn.self.living.given + l.counter;
  instances : l.self.instances.items ≡ l.fn.self.instances.items
      ++ first_of l.fn.self.system.now (l.fn.self.living.given + 1) l.id l.process l.counter;
}
