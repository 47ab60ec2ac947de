use Rattle.std.specs.Prelude.{Some}
use Rattle.threads_ports.specs.Named.{name_of}
use Rattle.test_settle.proofs.runs.settle_named.Given as goal

-- the run's name: its system, the ports that were made, and the table
abbrev pub ghosts-run_named : goal.ghosts-run_named
ghosts-run_named g a = record {
  system = Some a.given.now.system;
  ports = name_of a.made.rows.items;
  table = a.table.id;
}
