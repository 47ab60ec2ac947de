-- Each fault of what joins the agents is a rule that is broken in it.
use Rattle.std.proofs.Common.{◌≡◌, ◌++◌, ℕ, ◌+◌, true, List, [], ◌∷◌, Option, None, Some, flat_map, is_none, inl, inr, refl, sym, subst}
use Rattle.std.proofs.lemmas.List.Concat.{flat_map-append}
use Rattle.build_definitions.specs.Rows.{ChannelRow, ConnectionRow, ProcessRow, SignalListRow}
use Rattle.build_definitions.specs.Definitions.{Rows, path_of}
use Rattle.build_definitions.specs.declared.symbols.symbol_table.SymbolTable.{SymbolTable}
use Rattle.build_network.specs.Agents.{agent_end, block_names, end_faults}
use Rattle.build_network.specs.Broken.{HasNumber, IsBroken, IsNoAgent, IsNoItem, IsPathOf}
use Rattle.build_network.specs.Broken as broken
use Rattle.build_network.specs.Connects.{channel_faults, connect_faults}
use Rattle.build_network.specs.Network.{all_paths, network_faults}
use Rattle.build_network.specs.Lists.{list_faults}
use Rattle.build_network.specs.Numbered.{joined, numbered}
use Rattle.build_network.specs.Paths.{channel_paths, path_faults, second_path, seen_from}
use Rattle.build_network.specs.Processes.{faults_of, processes_faults, seen_within, set_faults}
use Rattle.build_network.specs.Seen.{Seen, item_faults, item_in, item_name, items_faults, list_item, seen_at, signal_item}
use Rattle.build_names.proofs.FaultLemmas.{each-both, each-if, each-of}
use Rattle.build_names.specs.FaultLaws.{Each, In}
use Rattle.build_names.specs.Faults.{Diagnostic, diagnostic_at}
use Rattle.build_names.specs.Names.{first_of}
use Rattle.build_names.specs.declared.faults.fault.Rule.TheVariants.{Unknown}
use Rattle.build_definitions.specs.declared.entries.SignalListId.{SignalListId}
use Rattle.build_expressions.specs.declared.scope.AgentMeaning.{AgentMeaning}
use Rattle.build_expressions.specs.declared.scope.AgentMeaning.TheVariants as agent
use Rattle.build_expressions.specs.declared.scope.SignalMeaning.{SignalMeaning}
use Rattle.build_expressions.specs.declared.scope.SignalMeaning.TheVariants.{Signal, Timer}
use Rattle.build_names.specs.Spaces.{names_of}
use Rattle.build_names.specs.declared.scopes.scope.ScopeId.{ScopeId}
use Rattle.build_names.specs.declared.scopes.scope.ScopeId.TheVariants as scope
use Rattle.sdl_system.specs.declared.id.BlockId.{BlockId}
use Rattle.sdl_tree.specs.Tree.{Agent, ChannelEnd, ChannelPath, Env, ListItem, LocalDefinition, LocalSignalList, LocalSignals, LocalSignalSet, LocalSynonyms, SignalItem, SignalListItem, Timers, Variables}
use Rattle.sdl_tree.specs.Words.{Spot}

-- ---- lists

none-is : {A : Type 0} (found : Option A) → is_none found ≡ true → found ≡ None
none-is None is = refl
none-is (Some x) is = cc

-- in the lists that are made of elements and of their numbers
each-numbered : {A B : Type 0} (P : B → Type 0) (make : ℕ → A → List B) (first : ℕ) (xs : List A) →
    ((number : ℕ) (x : A) → HasNumber first xs number x → Each P (make number x)) →
    Each P (joined (numbered make first xs))
each-numbered P make first [] of = tt
each-numbered P make first (x ∷ xs) of =
    each-both P (make first x) (joined (numbered make (first + 1) xs)) (of first x (inl (refl, refl)))
    (each-numbered P make (first + 1) xs (λ number y at. of number y (inr at)))

-- in the lists of all that is made of elements
each-made : {A B C : Type 0} (P : C → Type 0) (parts : A → List B) (make : B → List C) (xs : List A) →
    ((x : A) → In x xs → Each P (flat_map make (parts x))) → Each P (flat_map make (flat_map parts xs))
each-made P parts make [] of = tt
each-made P parts make (x ∷ xs) of =
    subst (Each P) (sym (flat_map-append make (parts x) (flat_map parts xs)))
    (each-both P (flat_map make (parts x)) (flat_map make (flat_map parts xs)) (of x (inl refl))
    (each-made P parts make xs (λ y at. of y (inr at))))

-- ---- names of signals

no-signal : (found : Option SignalMeaning) → is_none (signal_item found) ≡ true → found ≡ None
no-signal None is = refl
no-signal (Some (Signal number sorts)) is = cc
no-signal (Some (Timer number sorts has_default)) is = cc

no-list : (found : Option SignalListId) → is_none (list_item found) ≡ true → found ≡ None
no-list None is = refl
no-list (Some number) is = cc

no-item : (seen : Seen) (listed : SignalListItem) → is_none (item_in seen listed) ≡ true → IsNoItem seen listed
no-item seen (SignalItem name) is = broken.no_signal name (no-signal (first_of seen.signals name.text) is)
no-item seen (ListItem name) is = broken.no_list name (no-list (first_of seen.lists name.text) is)

each-item : (P : Diagnostic → Type 0) (seen : Seen) (items : List SignalListItem) →
    ((listed : SignalListItem) → In listed items → IsNoItem seen listed →
    P (diagnostic_at Unknown (item_name listed))) →
    Each P (items_faults seen items)
each-item P seen items of =
    each-of P (item_faults seen) items (λ listed at.
    each-if P (is_none (item_in seen listed)) Unknown (item_name listed) (λ is. of listed at (no-item seen listed is)))

module _ (rows : Rows) (symbols : SymbolTable) where
  -- ---- ends

  no-agent : (place : ScopeId) (name : Spot) (block : Option BlockId) (found : Option AgentMeaning) →
      first_of (block_names rows.blocks) name.text ≡ block →
      first_of (names_of symbols.agents place) name.text ≡ found →
      is_none (agent_end block found) ≡ true → IsNoAgent rows symbols place name
  no-agent place name block None at meant is = broken.no_agent meant
  no-agent place name block (Some (agent.Process number sorts)) at meant is = cc
  no-agent place name None (Some agent.Block) at meant is = broken.no_block meant at
  no-agent place name (Some block) (Some agent.Block) at meant is = cc

  each-end : (place : ScopeId) (end : ChannelEnd) →
      ((name : Spot) → end ≡ Agent name → IsNoAgent rows symbols place name →
      IsBroken rows symbols (diagnostic_at Unknown name)) →
      Each (IsBroken rows symbols) (end_faults (block_names rows.blocks) (names_of symbols.agents place) end)
  each-end place (Env word) of = tt
  each-end place (Agent name) of =
      let block : Option BlockId = first_of (block_names rows.blocks) name.text in
      let found : Option AgentMeaning = first_of (names_of symbols.agents place) name.text in
      each-if (IsBroken rows symbols) (is_none (agent_end block found)) Unknown name
      (λ is. of name refl (no-agent place name block found refl refl is))

  -- ---- paths

  each-path : (channel : ChannelRow) → In channel rows.channels → (path : ChannelPath) →
      IsPathOf channel.definition path →
      Each (IsBroken rows symbols)
      (path_faults symbols (block_names rows.blocks) (record { scope = channel.scope; path = path }))
  each-path channel at path is =
      let begins : List Diagnostic = end_faults (block_names rows.blocks) (names_of symbols.agents channel.scope)
      path.from in
      let leads : List Diagnostic = end_faults (block_names rows.blocks) (names_of symbols.agents channel.scope)
      path.to in
      let carries : List Diagnostic = items_faults (seen_from symbols channel.scope) path.signals in
      each-both (IsBroken rows symbols) begins (leads ++ carries)
      (each-end channel.scope path.from (λ name from isnt. broken.no_beginning channel at path is name from isnt))
      (each-both (IsBroken rows symbols) leads carries
      (each-end channel.scope path.to (λ name to isnt. broken.no_end channel at path is name to isnt))
      (each-item (IsBroken rows symbols) (seen_from symbols channel.scope) path.signals
      (λ listed among isnt. broken.carried channel at path is listed among isnt)))

  each-second : (channel : ChannelRow) → In channel rows.channels → (second : Option ChannelPath) →
      channel.definition.second ≡ second →
      Each (IsBroken rows symbols)
      (flat_map (path_faults symbols (block_names rows.blocks)) (second_path channel.scope second))
  each-second channel at None is = tt
  each-second channel at (Some path) is =
      each-both (IsBroken rows symbols)
      (path_faults symbols (block_names rows.blocks) (record { scope = channel.scope; path = path })) []
      (each-path channel at path (broken.is_second is)) tt

  each-channel : (channel : ChannelRow) → In channel rows.channels →
      Each (IsBroken rows symbols)
      (flat_map (path_faults symbols (block_names rows.blocks)) (channel_paths channel))
  each-channel channel at =
      each-both (IsBroken rows symbols)
      (path_faults symbols (block_names rows.blocks)
      (record { scope = channel.scope; path = channel.definition.first }))
      (flat_map (path_faults symbols (block_names rows.blocks)) (second_path channel.scope channel.definition.second))
      (each-path channel at channel.definition.first (broken.is_first refl))
      (each-second channel at channel.definition.second refl)

  -- ---- signal sets

  each-set : (number : ℕ) (process : ProcessRow) → HasNumber 0 rows.processes number process →
      (local : LocalDefinition) → In local process.definition.definitions →
      Each (IsBroken rows symbols) (set_faults (seen_within symbols number process) local)
  each-set number process at (LocalSignalSet signals) among =
      each-item (IsBroken rows symbols) (seen_within symbols number process) signals.items
      (λ listed in_set isnt. broken.in_set number process at signals among listed in_set isnt)
  each-set number process at (LocalSignals signals) among = tt
  each-set number process at (LocalSignalList list) among = tt
  each-set number process at (LocalSynonyms synonyms) among = tt
  each-set number process at (Variables groups) among = tt
  each-set number process at (Timers timers) among = tt

  each-process : Each (IsBroken rows symbols) (processes_faults symbols rows.processes)
  each-process =
      each-numbered (IsBroken rows symbols) (faults_of symbols) 0 rows.processes (λ number process at.
      each-of (IsBroken rows symbols) (set_faults (seen_within symbols number process)) process.definition.definitions
      (λ local among. each-set number process at local among))

  -- ---- connects

  each-name : (place : ScopeId) (names : List Spot) →
      ((name : Spot) → In name names → first_of (names_of symbols.channels place) name.text ≡ None →
      IsBroken rows symbols (diagnostic_at Unknown name)) →
      Each (IsBroken rows symbols) (flat_map (channel_faults (names_of symbols.channels place)) names)
  each-name place names of =
      each-of (IsBroken rows symbols) (channel_faults (names_of symbols.channels place)) names (λ name at.
      each-if (IsBroken rows symbols) (is_none (first_of (names_of symbols.channels place) name.text)) Unknown name
      (λ is. of name at (none-is (first_of (names_of symbols.channels place) name.text) is)))

  each-connect : (connection : ConnectionRow) → In connection rows.connections →
      Each (IsBroken rows symbols) (connect_faults symbols connection)
  each-connect connection at =
      each-both (IsBroken rows symbols)
      (flat_map (channel_faults (names_of symbols.channels scope.System)) connection.definition.outer)
      (flat_map (channel_faults (names_of symbols.channels connection.scope)) connection.definition.inner)
      (each-name scope.System connection.definition.outer
      (λ name among isnt. broken.no_outer connection at name among isnt))
      (each-name connection.scope connection.definition.inner
      (λ name among isnt. broken.no_inner connection at name among isnt))

  -- ---- signal lists

  each-list : (list : SignalListRow) → In list rows.lists →
      Each (IsBroken rows symbols) (list_faults symbols rows.processes list)
  each-list list at =
      each-item (IsBroken rows symbols) (seen_at symbols (path_of rows.processes list.scope)) list.definition.items
      (λ listed among isnt. broken.in_list list at listed among isnt)

  -- ---- the whole

  each-network : Each (IsBroken rows symbols) (network_faults rows symbols)
  each-network =
      let lists : List Diagnostic = flat_map (list_faults symbols rows.processes) rows.lists in
      let paths : List Diagnostic = flat_map (path_faults symbols (block_names rows.blocks)) (all_paths rows) in
      let sets : List Diagnostic = processes_faults symbols rows.processes in
      let connects : List Diagnostic = flat_map (connect_faults symbols) rows.connections in
      each-both (IsBroken rows symbols) lists (paths ++ (sets ++ connects))
      (each-of (IsBroken rows symbols) (list_faults symbols rows.processes) rows.lists each-list)
      (each-both (IsBroken rows symbols) paths (sets ++ connects)
      (each-made (IsBroken rows symbols) channel_paths (path_faults symbols (block_names rows.blocks)) rows.channels
      each-channel)
      (each-both (IsBroken rows symbols) sets connects each-process
      (each-of (IsBroken rows symbols) (connect_faults symbols) rows.connections each-connect)))

pub listed-broken : (rows : Rows) (symbols : SymbolTable) → Each (IsBroken rows symbols) (network_faults rows symbols)
listed-broken rows symbols = each-network rows symbols
