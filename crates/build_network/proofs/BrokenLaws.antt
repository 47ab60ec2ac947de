-- Each rule that is broken in what joins the agents is among its faults.
use Rattle.std.proofs.Common.{◌≡◌, ◌∙◌, ◌++◌, ℕ, ◌+◌, true, List, [], ◌∷◌, Option, None, Some, flat_map, is_none, inl, inr, sym, ap, subst}
use Rattle.std.proofs.lemmas.List.Concat.{flat_map-append}
use Rattle.build_definitions.specs.Rows.{ChannelRow, ConnectionRow}
use Rattle.build_definitions.specs.Definitions.{Rows, path_of}
use Rattle.build_definitions.specs.declared.symbols.symbol_table.SymbolTable.{SymbolTable}
use Rattle.build_network.specs.Agents.{agent_end, block_names, end_faults}
use Rattle.build_network.specs.Broken.{HasNumber, IsBroken, IsNoAgent, IsNoItem, IsPathOf}
use Rattle.build_network.specs.Broken as broken
use Rattle.build_network.specs.Connects.{channel_faults, connect_faults}
use Rattle.build_network.specs.Network.{all_paths, network_faults}
use Rattle.build_network.specs.Lists.{list_faults}
use Rattle.build_network.specs.Numbered.{joined, numbered}
use Rattle.build_network.specs.Paths.{channel_paths, path_faults, second_path, seen_from}
use Rattle.build_network.specs.Processes.{faults_of, processes_faults, seen_within, set_faults}
use Rattle.build_network.specs.Seen.{Seen, item_faults, item_in, item_name, items_faults, list_item, seen_at, signal_item}
use Rattle.build_names.proofs.FaultLemmas.{in-each, in-if, in-left, in-right}
use Rattle.build_names.specs.FaultLaws.{In}
use Rattle.build_names.specs.Faults.{Diagnostic, diagnostic_at}
use Rattle.build_names.specs.Names.{first_of}
use Rattle.build_names.specs.declared.faults.fault.Rule.TheVariants.{Unknown}
use Rattle.build_expressions.specs.declared.scope.AgentMeaning.TheVariants as agent
use Rattle.build_names.specs.Spaces.{names_of}
use Rattle.build_names.specs.declared.scopes.scope.ScopeId.{ScopeId}
use Rattle.build_names.specs.declared.scopes.scope.ScopeId.TheVariants as scope
use Rattle.sdl_tree.specs.Tree.{Agent, ChannelEnd, ChannelPath, LocalSignalSet, SignalListItem}
use Rattle.sdl_tree.specs.Words.{Spot}

-- ---- lists

-- in the lists that are made of elements and of their numbers
in-numbered : {A B : Type 0} (fault : B) (make : ℕ → A → List B) (first : ℕ) (xs : List A) (number : ℕ) (x : A) →
    HasNumber first xs number x → In fault (make number x) → In fault (joined (numbered make first xs))
in-numbered fault make first [] number x at here = absurd at
in-numbered fault make first (y ∷ ys) number x at here =
    elim at [
      | inl is ↦ in-left fault (make first y) (joined (numbered make (first + 1) ys))
          (subst (λ n. In fault (make n y)) (sym is.0) (subst (λ z. In fault (make number z)) (sym is.1) here))
      | inr later ↦ in-right fault (make first y) (joined (numbered make (first + 1) ys))
          (in-numbered fault make (first + 1) ys number x later here)
    ]

-- in the lists of all that is made of elements
in-made : {A B C : Type 0} (fault : C) (parts : A → List B) (make : B → List C) (xs : List A) (x : A) → In x xs →
    In fault (flat_map make (parts x)) → In fault (flat_map make (flat_map parts xs))
in-made fault parts make [] x at here = absurd at
in-made fault parts make (y ∷ ys) x at here =
    subst (In fault) (sym (flat_map-append make (parts y) (flat_map parts ys)))
    (elim at [
      | inl is ↦ in-left fault (flat_map make (parts y)) (flat_map make (flat_map parts ys))
          (subst (λ z. In fault (flat_map make (parts z))) is here)
      | inr later ↦ in-right fault (flat_map make (parts y)) (flat_map make (flat_map parts ys))
          (in-made fault parts make ys x later here)
    ])

-- ---- names of signals

is-none-item : (seen : Seen) (listed : SignalListItem) → IsNoItem seen listed → is_none (item_in seen listed) ≡ true
is-none-item seen listed (broken.no_signal name isnt) = ap (λ found. is_none (signal_item found)) isnt
is-none-item seen listed (broken.no_list name isnt) = ap (λ found. is_none (list_item found)) isnt

in-items : (seen : Seen) (items : List SignalListItem) (listed : SignalListItem) → In listed items →
    IsNoItem seen listed → In (diagnostic_at Unknown (item_name listed)) (items_faults seen items)
in-items seen items listed at isnt =
    in-each (diagnostic_at Unknown (item_name listed)) (item_faults seen) items listed at
    (in-if (is_none (item_in seen listed)) Unknown (item_name listed) (is-none-item seen listed isnt))

module _ (rows : Rows) (symbols : SymbolTable) where
  abbrev ends : ScopeId → ChannelEnd → List Diagnostic
  ends place end = end_faults (block_names rows.blocks) (names_of symbols.agents place) end

  abbrev carries : ScopeId → ChannelPath → List Diagnostic
  carries place path = items_faults (seen_from symbols place) path.signals

  abbrev of_path : ScopeId → ChannelPath → List Diagnostic
  of_path place path = path_faults symbols (block_names rows.blocks) (record { scope = place; path = path })

  -- ---- ends

  is-none-end : (place : ScopeId) (name : Spot) → IsNoAgent rows symbols place name →
      is_none (agent_end (first_of (block_names rows.blocks) name.text) (first_of (names_of symbols.agents place)
      name.text)) ≡ true
  is-none-end place name (broken.no_agent isnt) =
      ap (λ found. is_none (agent_end (first_of (block_names rows.blocks) name.text) found)) isnt
  is-none-end place name (broken.no_block is isnt) =
      ap (λ found. is_none (agent_end (first_of (block_names rows.blocks) name.text) found)) is
      ∙ ap (λ block. is_none (agent_end block (Some agent.Block))) isnt

  in-end : (place : ScopeId) (end : ChannelEnd) (name : Spot) → end ≡ Agent name → IsNoAgent rows symbols place name →
      In (diagnostic_at Unknown name) (ends place end)
  in-end place end name is isnt =
      subst (λ e. In (diagnostic_at Unknown name) (ends place e)) (sym is)
      (in-if (is_none (agent_end (first_of (block_names rows.blocks) name.text)
      (first_of (names_of symbols.agents place) name.text))) Unknown name (is-none-end place name isnt))

  -- ---- paths

  in-second : (place : ScopeId) (second : Option ChannelPath) (path : ChannelPath) → second ≡ Some path →
      (fault : Diagnostic) → In fault (of_path place path) →
      In fault (flat_map (path_faults symbols (block_names rows.blocks)) (second_path place second))
  in-second place second path is fault here =
      subst (λ s. In fault (flat_map (path_faults symbols (block_names rows.blocks)) (second_path place s))) (sym is)
      (in-left fault (of_path place path) [] here)

  in-channel : (channel : ChannelRow) (path : ChannelPath) → IsPathOf channel.definition path → (fault : Diagnostic) →
      In fault (of_path channel.scope path) →
      In fault (flat_map (path_faults symbols (block_names rows.blocks)) (channel_paths channel))
  in-channel channel path (broken.is_first is) fault here =
      in-left fault (of_path channel.scope channel.definition.first)
      (flat_map (path_faults symbols (block_names rows.blocks)) (second_path channel.scope channel.definition.second))
      (subst (λ p. In fault (of_path channel.scope p)) (sym is) here)
  in-channel channel path (broken.is_second is) fault here =
      in-right fault (of_path channel.scope channel.definition.first)
      (flat_map (path_faults symbols (block_names rows.blocks)) (second_path channel.scope channel.definition.second))
      (in-second channel.scope channel.definition.second path is fault here)

  -- ---- the four parts of the list

  abbrev of_lists : List Diagnostic
  of_lists = flat_map (list_faults symbols rows.processes) rows.lists

  abbrev of_paths : List Diagnostic
  of_paths = flat_map (path_faults symbols (block_names rows.blocks)) (all_paths rows)

  abbrev of_sets : List Diagnostic
  of_sets = processes_faults symbols rows.processes

  abbrev of_connects : List Diagnostic
  of_connects = flat_map (connect_faults symbols) rows.connections

  in-paths : (channel : ChannelRow) → In channel rows.channels → (path : ChannelPath) →
      IsPathOf channel.definition path → (fault : Diagnostic) → In fault (of_path channel.scope path) →
      In fault (network_faults rows symbols)
  in-paths channel at path is fault here =
      in-right fault of_lists (of_paths ++ (of_sets ++ of_connects))
      (in-left fault of_paths (of_sets ++ of_connects)
      (in-made fault channel_paths (path_faults symbols (block_names rows.blocks)) rows.channels channel at
      (in-channel channel path is fault here)))

  in-connects : (connection : ConnectionRow) → In connection rows.connections → (fault : Diagnostic) →
      In fault (connect_faults symbols connection) → In fault (network_faults rows symbols)
  in-connects connection at fault here =
      in-right fault of_lists (of_paths ++ (of_sets ++ of_connects))
      (in-right fault of_paths (of_sets ++ of_connects)
      (in-right fault of_sets of_connects
      (in-each fault (connect_faults symbols) rows.connections connection at here)))

  in-names : (place : ScopeId) (names : List Spot) (name : Spot) → In name names →
      first_of (names_of symbols.channels place) name.text ≡ None →
      In (diagnostic_at Unknown name) (flat_map (channel_faults (names_of symbols.channels place)) names)
  in-names place names name at isnt =
      in-each (diagnostic_at Unknown name) (channel_faults (names_of symbols.channels place)) names name at
      (in-if (is_none (first_of (names_of symbols.channels place) name.text)) Unknown name (ap is_none isnt))

  -- ---- each rule

  in-network : (fault : Diagnostic) → IsBroken rows symbols fault → In fault (network_faults rows symbols)
  in-network fault (broken.in_list list at listed among isnt) =
      let told : Diagnostic = diagnostic_at Unknown (item_name listed) in
      in-left told of_lists (of_paths ++ (of_sets ++ of_connects))
      (in-each told (list_faults symbols rows.processes) rows.lists list at
      (in-items (seen_at symbols (path_of rows.processes list.scope)) list.definition.items listed among isnt))
  in-network fault (broken.no_beginning channel at path is name from isnt) =
      let told : Diagnostic = diagnostic_at Unknown name in
      in-paths channel at path is told
      (in-left told (ends channel.scope path.from) (ends channel.scope path.to ++ carries channel.scope path)
      (in-end channel.scope path.from name from isnt))
  in-network fault (broken.no_end channel at path is name to isnt) =
      let told : Diagnostic = diagnostic_at Unknown name in
      in-paths channel at path is told
      (in-right told (ends channel.scope path.from) (ends channel.scope path.to ++ carries channel.scope path)
      (in-left told (ends channel.scope path.to) (carries channel.scope path)
      (in-end channel.scope path.to name to isnt)))
  in-network fault (broken.carried channel at path is listed among isnt) =
      let told : Diagnostic = diagnostic_at Unknown (item_name listed) in
      in-paths channel at path is told
      (in-right told (ends channel.scope path.from) (ends channel.scope path.to ++ carries channel.scope path)
      (in-right told (ends channel.scope path.to) (carries channel.scope path)
      (in-items (seen_from symbols channel.scope) path.signals listed among isnt)))
  in-network fault (broken.in_set number process at signals among listed in_it isnt) =
      let told : Diagnostic = diagnostic_at Unknown (item_name listed) in
      in-right told of_lists (of_paths ++ (of_sets ++ of_connects))
      (in-right told of_paths (of_sets ++ of_connects)
      (in-left told of_sets of_connects
      (in-numbered told (faults_of symbols) 0 rows.processes number process at
      (in-each told (set_faults (seen_within symbols number process)) process.definition.definitions
      (LocalSignalSet signals) among
      (in-items (seen_within symbols number process) signals.items listed in_it isnt)))))
  in-network fault (broken.no_outer connection at name among isnt) =
      let told : Diagnostic = diagnostic_at Unknown name in
      in-connects connection at told
      (in-left told (flat_map (channel_faults (names_of symbols.channels scope.System)) connection.definition.outer)
      (flat_map (channel_faults (names_of symbols.channels connection.scope)) connection.definition.inner)
      (in-names scope.System connection.definition.outer name among isnt))
  in-network fault (broken.no_inner connection at name among isnt) =
      let told : Diagnostic = diagnostic_at Unknown name in
      in-connects connection at told
      (in-right told (flat_map (channel_faults (names_of symbols.channels scope.System)) connection.definition.outer)
      (flat_map (channel_faults (names_of symbols.channels connection.scope)) connection.definition.inner)
      (in-names connection.scope connection.definition.inner name among isnt))

pub broken-listed : (rows : Rows) (symbols : SymbolTable) (fault : Diagnostic) → IsBroken rows symbols fault →
    In fault (network_faults rows symbols)
broken-listed rows symbols fault is = in-network rows symbols fault is
