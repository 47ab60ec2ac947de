use Rattle.std.proofs.Common.{◌≡◌, take}
use Rattle.serial_order.specs.RunState.{first_instances}
use Rattle.serial_run.specs.Serial.{IsSerial}
use Rattle.serial_run.proofs.instances.Instances.begin.Given as goal

abbrev pub invariant-loop-number : goal.invariant-loop-number
invariant-loop-number l = record {
  serial : IsSerial l.agenda.ready l.run;
  system : l.run.system.now ≡ l.system;
  clock : l.agenda.clock ≡ l.fn.agenda.clock;
  fuses : l.agenda.fuses ≡ l.fn.agenda.fuses;
  instances : l.run.instances.items ≡ first_instances l.system 1 0 (take l.number l.system.processes);
}
