use Rattle.std.proofs.Common.{◌∙◌, sym}
use Rattle.sdl_build.proofs.ConnectionLemmas.{members-if, network-if}
use Rattle.sdl_build.proofs.ProcessLemmas.{length-map}
use Rattle.build_definitions.specs.Seen.{signal_list_seen}
use Rattle.build_definitions.specs.Definitions.{rows_of}
use Rattle.sdl_build.proofs.context.connections.Connections.of.Goals as goal

pub returns-clause-network : goal.returns-clause-network
returns-clause-network c =
    network-if (rows_of c.args.definitions.now) c.args.symbols.now c.in_ok-network.network c.over.result
    c.over.ensures.network (record {
      signals = c.in_ok-network.ensures.signals;
      lists = c.in_ok-network.ensures.lists;
      is_implied = c.in_ok-network.ensures.is_implied;
      processes = c.in_ok-network.ensures.processes;
      blocks = c.in_ok-network.ensures.blocks;
      paths = c.in_ok-network.ensures.paths;
      connects = c.in_ok-network.ensures.connects;
    })

pub returns-clause-members : goal.returns-clause-members
returns-clause-members c =
    members-if c.in_ok-lists.lists _ c.over.result
    (c.in_ok-lists.ensures.same ∙ c.len.ensures ∙ c.args.definitions.now.lists.ok.0
    ∙ sym (length-map signal_list_seen c.args.definitions.now.lists.items))
    c.over.ensures.members
