-- In this run the port is whose it is said to be.
use Rattle.std.proofs.Common.{None}
use Rattle.threads_ports.specs.Run.{no_table}
use Rattle.test_interp.proofs.port.peers.puts_to_another.Given as goal

abbrev pub ghosts-puts_one : goal.ghosts-puts_one
ghosts-puts_one g a = record { system = None; ports = λ _. a.port.now.queue; table = no_table }
