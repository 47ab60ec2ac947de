-- In this run the port is whose it is said to be.
use Rattle.std.proofs.Common.{None}
use Rattle.threads_ports.specs.Run.{no_table}
use Rattle.test_interp.proofs.port.peers.expires_into_its_own_port.Given as goal

abbrev pub ghosts-expires : goal.ghosts-expires
ghosts-expires g a = record { system = None; ports = λ _. a.port.now.queue; table = no_table }
