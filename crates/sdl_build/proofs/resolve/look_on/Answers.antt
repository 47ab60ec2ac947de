use Rattle.sdl_build.proofs.ResolveLemmas.{made-on-if}
use Rattle.sdl_build.proofs.ProcessLemmas.{not-made}
use Rattle.sdl_build.specs.Around.{context_of}
use Rattle.sdl_build.proofs.resolve.look_on.Goals as goal

pub processes_in-requires-clause-known : goal.processes_in-requires-clause-known
processes_in-requires-clause-known c = record {
  is_constant_table = c.requires;
  is_network = c.in_ok-connections.ensures.network;
}

pub processes_in-requires-clause-sets : goal.processes_in-requires-clause-sets
processes_in-requires-clause-sets c = c.in_ok-connections.ensures.sets

pub returns : goal.returns
returns c =
    made-on-if (context_of c.args.definitions.now c.args.symbols.now c.args.constant_table.now
    c.in_ok-connections.connections) _ _
    c.args.constant_table.now.durations.items c.in_ok-processes.processes c.system_with.result
    (record {
      network = c.in_ok-connections.ensures.network;
      routes = c.in_ok-connections.ensures.routes;
      members = c.in_ok-connections.ensures.members;
    })
    (record {
      mid = c.of.new.faults;
      connections = c.in_ok-connections.ensures.noted;
      bodies = c.in_ok-processes.ensures.noted;
    })
    c.in_ok-processes.ensures.made c.requires.durations c.system_with.ensures

pub returns-in_err-processes : goal.returns-in_err-processes
returns-in_err-processes c =
    not-made c.from_residual-in_err-processes.result _ _ c.from_residual-in_err-processes.ensures.1

pub returns-in_err-connections : goal.returns-in_err-connections
returns-in_err-connections c = not-made c.from_residual.result _ _ c.from_residual.ensures.1
