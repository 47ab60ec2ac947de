use Rattle.threads_ports.proofs.Made.{IsMade}
use Rattle.threads_ports.proofs.instances.processes.Processes.new.Given as goal

abbrev pub invariant-loop-process : goal.invariant-loop-process
invariant-loop-process l = IsMade l.process-items l.process-index l.rows.items l.least.items
