-- When a rule is broken in what joins the agents, and at which word: said of the definitions that stand in the text,
-- and not of what is noted (Z.101: signal list, channel, channel connection, valid input signal set).
use Rattle.std.specs.Prelude.{◌≡◌, ◌⊎◌, ℕ, ◌+◌, List, [], ◌∷◌, None, Some}
use Rattle.build_definitions.specs.Rows.{ChannelRow, ConnectionRow, ProcessRow, SignalListRow}
use Rattle.build_definitions.specs.Definitions.{Rows, path_of}
use Rattle.build_definitions.specs.declared.symbols.symbol_table.SymbolTable.{SymbolTable}
use Rattle.build_network.specs.Agents.{block_names}
use Rattle.build_network.specs.Network.{network_faults}
use Rattle.build_network.specs.Paths.{seen_from}
use Rattle.build_network.specs.Processes.{seen_within}
use Rattle.build_network.specs.Seen.{Seen, item_name, seen_at}
use Rattle.build_names.specs.FaultLaws.{Each, In}
use Rattle.build_names.specs.Faults.{Diagnostic, diagnostic_at}
use Rattle.build_names.specs.Names.{first_of}
use Rattle.build_names.specs.declared.faults.fault.Rule.TheVariants.{Unknown}
use Rattle.build_expressions.specs.declared.scope.AgentMeaning.TheVariants as agent
use Rattle.build_names.specs.Spaces.{names_of}
use Rattle.build_names.specs.declared.scopes.scope.ScopeId.{ScopeId}
use Rattle.build_names.specs.declared.scopes.scope.ScopeId.TheVariants as scope
use Rattle.sdl_tree.specs.Tree.{Agent, ChannelDefinition, ChannelPath, ListItem, LocalSignalSet, SignalItem, SignalListItem, SignalSet}
use Rattle.sdl_tree.specs.Words.{Spot}

-- ---- what stands where

-- the element stands in the list under this number, where the first of the list has the number `first`
abbrev pub HasNumber : {A : Type 0} → ℕ → List A → ℕ → A → Type 0
HasNumber first [] number x = ⊥
HasNumber first (y ∷ ys) number x = ((first ≡ number) × (y ≡ x)) ⊎ HasNumber (first + 1) ys number x

-- a path of the channel: its first, or its second if it has one
pub data IsPathOf (channel : ChannelDefinition) (path : ChannelPath) : Type 0 where
  is_first : channel.first ≡ path → IsPathOf channel path
  is_second : channel.second ≡ Some path → IsPathOf channel path

-- ---- what names stand for

-- what stands in a list of signals is the name of no signal and no timer, or in brackets of no signal list
pub data IsNoItem (seen : Seen) : SignalListItem → Type 0 where
  no_signal : (name : Spot) → first_of seen.signals name.text ≡ None → IsNoItem seen (SignalItem name)
  no_list : (name : Spot) → first_of seen.lists name.text ≡ None → IsNoItem seen (ListItem name)

-- the scope has no process and no block of this name
pub data IsNoAgent (rows : Rows) (symbols : SymbolTable) (place : ScopeId) (name : Spot) : Type 0 where
  no_agent : first_of (names_of symbols.agents place) name.text ≡ None → IsNoAgent rows symbols place name
  no_block :
      first_of (names_of symbols.agents place) name.text ≡ Some agent.Block
      → first_of (block_names rows.blocks) name.text ≡ None → IsNoAgent rows symbols place name

-- the scope has no channel of this name
abbrev pub IsNoChannel : SymbolTable → ScopeId → Spot → Type 0
IsNoChannel symbols place name = first_of (names_of symbols.channels place) name.text ≡ None

-- ---- rules

-- a rule is broken in what joins the agents of the definitions, where names stand for what `symbols` says
pub data IsBroken (rows : Rows) (symbols : SymbolTable) : Diagnostic → Type 0 where
  -- a signal list names what is no signal, no timer and no signal list
  in_list :
      (list : SignalListRow) → In list rows.lists → (listed : SignalListItem) → In listed list.definition.items
      → IsNoItem (seen_at symbols (path_of rows.processes list.scope)) listed
      → IsBroken rows symbols (diagnostic_at Unknown (item_name listed))
  -- a path of a channel begins at no agent of the scope of the channel
  no_beginning :
      (channel : ChannelRow) → In channel rows.channels → (path : ChannelPath) → IsPathOf channel.definition path
      → (name : Spot) → path.from ≡ Agent name → IsNoAgent rows symbols channel.scope name
      → IsBroken rows symbols (diagnostic_at Unknown name)
  -- a path of a channel leads to no agent of the scope of the channel
  no_end :
      (channel : ChannelRow) → In channel rows.channels → (path : ChannelPath) → IsPathOf channel.definition path
      → (name : Spot) → path.to ≡ Agent name → IsNoAgent rows symbols channel.scope name
      → IsBroken rows symbols (diagnostic_at Unknown name)
  -- a path of a channel is said to carry what is no signal, no timer and no signal list
  carried :
      (channel : ChannelRow) → In channel rows.channels → (path : ChannelPath) → IsPathOf channel.definition path
      → (listed : SignalListItem) → In listed path.signals → IsNoItem (seen_from symbols channel.scope) listed
      → IsBroken rows symbols (diagnostic_at Unknown (item_name listed))
  -- the signal set of a process names what is no signal, no timer and no signal list
  in_set :
      (number : ℕ) (process : ProcessRow) → HasNumber 0 rows.processes number process
      → (signals : SignalSet) → In (LocalSignalSet signals) process.definition.definitions
      → (listed : SignalListItem) → In listed signals.items → IsNoItem (seen_within symbols number process) listed
      → IsBroken rows symbols (diagnostic_at Unknown (item_name listed))
  -- a connect names before `and` what is no channel of the system
  no_outer :
      (connection : ConnectionRow) → In connection rows.connections
      → (name : Spot) → In name connection.definition.outer → IsNoChannel symbols scope.System name
      → IsBroken rows symbols (diagnostic_at Unknown name)
  -- a connect names behind `and` what is no channel of its own scope
  no_inner :
      (connection : ConnectionRow) → In connection rows.connections
      → (name : Spot) → In name connection.definition.inner → IsNoChannel symbols connection.scope name
      → IsBroken rows symbols (diagnostic_at Unknown name)

-- ---- laws

-- Each fault of the list is broken.
abbrev pub ListedBroken : Type 0
ListedBroken = (rows : Rows) (symbols : SymbolTable) → Each (IsBroken rows symbols) (network_faults rows symbols)

-- Each rule that is broken is in the list.
abbrev pub BrokenListed : Type 0
BrokenListed = (rows : Rows) (symbols : SymbolTable) (fault : Diagnostic) → IsBroken rows symbols fault →
    In fault (network_faults rows symbols)
