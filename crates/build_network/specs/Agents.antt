-- What the ends of channels are (Z.101: channel): the environment, or a process or a block of the same scope.
use Rattle.std.specs.Prelude.{ℕ, List, [], Option, None, Some, is_none}
use Rattle.build_network.specs.Numbered.{numbered}
use Rattle.build_routes.specs.declared.network.joined.End.{End}
use Rattle.build_routes.specs.declared.network.joined.End.TheVariants as at
use Rattle.build_names.specs.Faults.{Diagnostic, fault_if}
use Rattle.build_names.specs.Names.{first_of}
use Rattle.build_names.specs.declared.faults.fault.Rule.TheVariants.{Unknown}
use Rattle.build_expressions.specs.declared.scope.AgentMeaning.{AgentMeaning}
use Rattle.build_expressions.specs.declared.scope.AgentMeaning.TheVariants as agent
use Rattle.sdl_system.specs.declared.id.BlockId.{BlockId}
use Rattle.sdl_tree.specs.Tree.{BlockDefinition, ChannelEnd, Env, Agent}

-- the name of a block, with its number
abbrev pub block_name : ℕ → BlockDefinition → List ℕ × BlockId
block_name number block = (block.name.text, record { 0 = number })

abbrev pub block_names : List BlockDefinition → List (List ℕ × BlockId)
block_names blocks = numbered block_name 0 blocks

abbrev pub block_end : Option BlockId → Option End
block_end None = None
block_end (Some block) = Some (at.Block block)

-- what an agent's name stands for; a block's number is that of its name
abbrev pub agent_end : Option BlockId → Option AgentMeaning → Option End
agent_end block None = None
agent_end block (Some (agent.Process number sorts)) = Some (at.Process number)
agent_end block (Some agent.Block) = block_end block

abbrev pub end_in : List (List ℕ × BlockId) → List (List ℕ × AgentMeaning) → ChannelEnd → Option End
end_in blocks agents (Env word) = Some at.Env
end_in blocks agents (Agent name) = agent_end (first_of blocks name.text) (first_of agents name.text)

-- an agent that its scope doesn't have
abbrev pub end_faults : List (List ℕ × BlockId) → List (List ℕ × AgentMeaning) → ChannelEnd → List Diagnostic
end_faults blocks agents (Env word) = []
end_faults blocks agents (Agent name) =
    fault_if (is_none (agent_end (first_of blocks name.text) (first_of agents name.text))) Unknown name
