-- The canonical words of a tree can be written where the words of a text spell it.
use Rattle.std.proofs.Common.{refl, ℕ, Bool, true, false, option_map, [], map}
use Rattle.sdl_tree.specs.declared.mark.Mark.TheVariants as mark
use Rattle.sdl_tree.specs.Canonical.{optional, signal_words, signals_words, signal_list_words, synonym_words, synonyms_words, point_words, path_words, no_delay_words, channel_words, bound_words, counts_words, parameters_words, fpar_words, initial_words, variables_words, timer_words, timers_words, signal_set_words, local_words, process_words, connect_words, definition_words, block_part_words, block_words, system_definition_words, canonical}
use Rattle.sdl_tree.specs.Erased.{erased_expr, erased_signal, erased_signal_list, erased_synonym, erased_synonyms, erased_parameters, erased_fpar, erased_variables, erased_timer, erased_timers, erased_signal_set, erased_local, erased_bound, erased_counts, erased_process, erased_end, erased_path, erased_channel, erased_connection, erased_definition, erased_block_part, erased_block, erased_system_definition, erased}
use Rattle.sdl_tree.specs.Spells.{SpellsSignalName, SpellsSignal, SpellsSignalList, SpellsSynonymName, SpellsSynonym, SpellsPoint, SpellsPath, SpellsNoDelay, SpellsChannel, SpellsBound, SpellsCounts, SpellsParameters, SpellsFpar, SpellsInitial, SpellsVariables, SpellsOne, SpellsTimer, SpellsSignalSet, SpellsPdef, SpellsProcess, SpellsConnect, SpellsDef, SpellsBlockPart, SpellsBlock, SpellsSystemDef, SpellsTree}
use Rattle.sdl_tree.specs.Tree.{LocalDefinition, LocalSignals, LocalSignalList, LocalSynonyms, LocalSignalSet, Variables, Timers, ChannelEnd, Env, Agent, Definition, Signals, SignalList, Synonyms, Channel, Process, BlockPart, InBlock, Connect, SystemDefinition, InSystem, Block, Tree}
use Rattle.sdl_tree.specs.Words.{Words}
use Rattle.sdl_print.proofs.Known.{AreKnown, AreWritable}
use Rattle.sdl_print.proofs.Carried.{Carried, Carries, known, mark_carried, name_carried, names_carried, sort_carried, sorts_carried, closing_dropped, both_carried, behind_carried, before_carried, followed_carried, ended_carried, optional_carried, separated_carried, repeated_carried, sigs_carried}
use Rattle.sdl_print.proofs.CarriedExpressions.{expr_carried}
use Rattle.sdl_print.proofs.CarriedTransitions.{start_carried, body_part_carried}

signal_carried : Carries erased_signal SpellsSignalName signal_words
signal_carried = record { carries = λ d i j s w. (both_carried name_carried sorts_carried).carries (d.name, d.sorts) i j s w }

signals_carried : Carries (map erased_signal) SpellsSignal signals_words
signals_carried = record { carries = (behind_carried (ended_carried (separated_carried signal_carried)) mark.Signal).carries }

signal_list_carried : Carries erased_signal_list SpellsSignalList signal_list_words
signal_list_carried = record {
  carries = λ l i j s w.
      let items = behind_carried (ended_carried sigs_carried) mark.Equal in
      (both_carried (mark_carried mark.SignalList) (both_carried name_carried items)).carries (l.word, (l.name, l.items)) i j s w;
}

point_on : (x : ChannelEnd) (i j : Words) → SpellsPoint x i j → AreKnown i → Carried j (point_words (erased_end x))
point_on (Env sp) i j s w = (mark_carried mark.Env).carries sp i j s w
point_on (Agent x) i j s w = name_carried.carries x i j s w

point_carried : Carries erased_end SpellsPoint point_words
point_carried = record { carries = point_on }

path_carried : Carries erased_path SpellsPath path_words
path_carried = record {
  carries = λ p i j s w.
      let with = behind_carried (ended_carried sigs_carried) mark.With in
      (behind_carried (both_carried point_carried (behind_carried (both_carried point_carried with) mark.To)) mark.From).carries (p.from, (p.to, p.signals)) i j s w;
}

no_delay_on : (x : Bool) (i j : Words) → SpellsNoDelay x i j → AreKnown i → Carried j (no_delay_words x)
no_delay_on false i j s w = (known s w, λ k v. v)
no_delay_on true i j s w = ((known s.1 w).1, λ k v. (refl, v))

no_delay_carried : Carries (λ x. x) SpellsNoDelay no_delay_words
no_delay_carried = record { carries = no_delay_on }

channel_carried : Carries erased_channel SpellsChannel channel_words
channel_carried = record {
  carries = λ c i j s w.
      let named = (known s.2.1 (known s.1 w).1).0 in
      let paths = both_carried no_delay_carried (both_carried path_carried (optional_carried path_carried)) in
      let closed = followed_carried paths (closing_dropped mark.EndChannel c.name named) in
      (both_carried (mark_carried mark.Channel) (both_carried name_carried closed)).carries (c.word, (c.name, (c.is_nodelay, (c.first, c.second)))) i j s w;
}

parameters_carried : Carries erased_parameters SpellsParameters parameters_words
parameters_carried = record { carries = λ g i j s w. (both_carried names_carried sort_carried).carries (g.names, g.sort) i j s w }

fpar_carried : Carries erased_fpar SpellsFpar fpar_words
fpar_carried = record {
  carries = λ f i j s w. (both_carried (mark_carried mark.Fpar) (ended_carried (separated_carried parameters_carried))).carries (f.word, f.groups) i j s w;
}

signal_set_carried : Carries erased_signal_set SpellsSignalSet signal_set_words
signal_set_carried = record {
  carries = λ x i j s w. (both_carried (mark_carried mark.SignalSet) (ended_carried sigs_carried)).carries (x.word, x.items) i j s w;
}

connect_carried : Carries erased_connection SpellsConnect connect_words
connect_carried = record {
  carries = λ c i j s w.
      let inner = behind_carried (ended_carried names_carried) mark.And in
      (both_carried (mark_carried mark.Connect) (both_carried names_carried inner)).carries (c.word, (c.outer, c.inner)) i j s w;
}

module _ (depth : ℕ) where
  synonym_carried : Carries erased_synonym (SpellsSynonymName depth) synonym_words
  synonym_carried = record {
    carries = λ d i j s w.
        let value = behind_carried (expr_carried depth) mark.Equal in
        (both_carried name_carried (both_carried sort_carried value)).carries (d.name, (d.sort, d.value)) i j s w;
  }

  synonyms_carried : Carries erased_synonyms (SpellsSynonym depth) synonyms_words
  synonyms_carried = record {
    carries = λ d i j s w. (both_carried (mark_carried mark.Synonym) (ended_carried (separated_carried synonym_carried))).carries (d.word, d.synonyms) i j s w;
  }

  bound_carried : Carries erased_bound (SpellsBound depth) bound_words
  bound_carried = record { carries = λ b i j s w. (behind_carried (optional_carried (expr_carried depth)) mark.Comma).carries b.maximum i j s w }

  counts_carried : Carries erased_counts (SpellsCounts depth) counts_words
  counts_carried = record {
    carries = λ c i j s w.
        let counts = both_carried (optional_carried (expr_carried depth)) (optional_carried bound_carried) in
        (both_carried (mark_carried mark.Open) (before_carried counts mark.Close)).carries (c.parenthesis, (c.initial, c.bound)) i j s w;
  }

  initial_carried : Carries (option_map erased_expr) (SpellsInitial depth) (optional initial_words)
  initial_carried = record { carries = (optional_carried (behind_carried (expr_carried depth) mark.Assign)).carries }

  variables_carried : Carries erased_variables (SpellsVariables depth) variables_words
  variables_carried = record {
    carries = λ g i j s w. (both_carried names_carried (both_carried sort_carried initial_carried)).carries (g.names, (g.sort, g.initial)) i j s w;
  }

  timer_carried : Carries erased_timer (SpellsOne depth) timer_words
  timer_carried = record {
    carries = λ t i j s w. (both_carried name_carried (both_carried sorts_carried initial_carried)).carries (t.name, (t.sorts, t.duration)) i j s w;
  }

  timers_carried : Carries erased_timers (SpellsTimer depth) timers_words
  timers_carried = record {
    carries = λ t i j s w. (both_carried (mark_carried mark.Timer) (ended_carried (separated_carried timer_carried))).carries (t.word, t.timers) i j s w;
  }

  local_on : (x : LocalDefinition) (i j : Words) → SpellsPdef depth x i j → AreKnown i → Carried j (local_words (erased_local x))
  local_on (LocalSignals signals) i j s w = signals_carried.carries signals i j s w
  local_on (LocalSignalList list) i j s w = signal_list_carried.carries list i j s w
  local_on (LocalSynonyms synonyms) i j s w = synonyms_carried.carries synonyms i j s w
  local_on (LocalSignalSet signals) i j s w = signal_set_carried.carries signals i j s w
  local_on (Variables groups) i j s w = (behind_carried (ended_carried (separated_carried variables_carried)) mark.Dcl).carries groups i j s w
  local_on (Timers timers) i j s w = timers_carried.carries timers i j s w

  local_carried : Carries erased_local (SpellsPdef depth) local_words
  local_carried = record { carries = local_on }

  process_carried : Carries erased_process (SpellsProcess depth) process_words
  process_carried = record {
    carries = λ p i j s w.
        let named = (known s.2.1 (known s.1 w).1).0 in
        let body = followed_carried (repeated_carried (body_part_carried depth)) (closing_dropped mark.EndProcess p.name named) in
        let inside = both_carried (optional_carried fpar_carried) (both_carried (repeated_carried local_carried) (both_carried (start_carried depth) body)) in
        let counted = both_carried (ended_carried (optional_carried counts_carried)) inside in
        (both_carried (mark_carried mark.Process) (both_carried name_carried counted)).carries
        (p.word, (p.name, (p.counts, (p.parameters, (p.definitions, (p.start, p.body)))))) i j s w;
  }

  definition_on : (x : Definition) (i j : Words) → SpellsDef depth x i j → AreKnown i → Carried j (definition_words (erased_definition x))
  definition_on (Signals signals) i j s w = signals_carried.carries signals i j s w
  definition_on (SignalList list) i j s w = signal_list_carried.carries list i j s w
  definition_on (Synonyms synonyms) i j s w = synonyms_carried.carries synonyms i j s w
  definition_on (Channel channel) i j s w = channel_carried.carries channel i j s w
  definition_on (Process process) i j s w = process_carried.carries process i j s w

  block_part_on : (x : BlockPart) (i j : Words) → SpellsBlockPart depth x i j → AreKnown i → Carried j (block_part_words (erased_block_part x))
  block_part_on (InBlock definition) i j s w = definition_on definition i j s w
  block_part_on (Connect connection) i j s w = connect_carried.carries connection i j s w

  block_part_carried : Carries erased_block_part (SpellsBlockPart depth) block_part_words
  block_part_carried = record { carries = block_part_on }

  block_carried : Carries erased_block (SpellsBlock depth) block_words
  block_carried = record {
    carries = λ b i j s w.
        let named = (known s.2.1.1 (known s.1 w).1).0 in
        let parts = followed_carried (repeated_carried block_part_carried) (closing_dropped mark.EndBlock b.name named) in
        (both_carried (mark_carried mark.Block) (both_carried (ended_carried name_carried) parts)).carries (b.word, (b.name, b.definitions)) i j s w;
  }

  system_definition_on : (x : SystemDefinition) (i j : Words) → SpellsSystemDef depth x i j → AreKnown i →
      Carried j (system_definition_words (erased_system_definition x))
  system_definition_on (InSystem definition) i j s w = definition_on definition i j s w
  system_definition_on (Block block) i j s w = block_carried.carries block i j s w

  system_definition_carried : Carries erased_system_definition (SpellsSystemDef depth) system_definition_words
  system_definition_carried = record { carries = system_definition_on }

  pub canonical_writable : (t : Tree) (i : Words) → SpellsTree depth t i → AreKnown i → AreWritable (canonical (erased t))
  canonical_writable t i s w =
      let named = (known s.3.1.1 (known s.2 w).1).0 in
      let definitions = followed_carried (repeated_carried system_definition_carried) (closing_dropped mark.EndSystem t.name named) in
      ((behind_carried (both_carried (ended_carried name_carried) definitions) mark.System).carries (t.name, t.definitions) i [] s w).1 [] tt
