use Rattle.std.proofs.Common.{◌≡◌, vec_len}
use Rattle.threads_ports.proofs.instances.entries.Entries.new.Given as goal

abbrev pub invariant-loop : goal.invariant-loop
invariant-loop l = vec_len l.cells ≡ l.counter
