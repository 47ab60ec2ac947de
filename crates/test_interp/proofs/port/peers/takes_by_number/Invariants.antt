-- In this run the port is whose it is said to be.
use Rattle.std.proofs.Common.{None}
use Rattle.threads_ports.specs.Run.{no_table}
use Rattle.test_interp.proofs.port.peers.takes_by_number.Given as goal

abbrev pub ghosts-takes : goal.ghosts-takes
ghosts-takes g a = record { system = None; ports = λ _. a.port.now.queue; table = no_table }
