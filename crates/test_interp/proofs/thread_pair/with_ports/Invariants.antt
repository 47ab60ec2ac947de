-- In this run each port is whose it is said to be.
use Rattle.std.proofs.Common.{Some, cond, nat_eq}
use Rattle.threads_ports.specs.Run.{no_table}
use Rattle.test_interp.proofs.thread_pair.with_ports.Given as goal

abbrev pub ghosts-talk : goal.ghosts-talk
ghosts-talk g a = record {
  system = Some a.system.now;
  ports = λ n. cond (nat_eq n 7) a.second.now.queue a.first.now.queue;
  table = no_table;
}
