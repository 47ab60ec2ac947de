use Rattle.std.specs.Prelude.{Some}
use Rattle.threads_ports.specs.Named.{name_of}
use Rattle.sdl_workers.proofs.threaded.run_plan.Given as goal

-- the run's name: its system, the ports that were made, and the table
abbrev pub ghosts-run_named : goal.ghosts-run_named
ghosts-run_named g a = record {
  system = Some a.system.now;
  ports = name_of a.made.rows.items;
  table = a.table.id;
}
