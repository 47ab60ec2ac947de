-- What is written for the erasure of a definition, and of a tree, spells it.
use Rattle.std.proofs.Common.{refl, ℕ, Bool, true, false, option_map, [], map}
use Rattle.sdl_tree.specs.declared.mark.Mark.TheVariants as mark
use Rattle.sdl_tree.specs.Canonical.{optional, in_parentheses, name_words, signal_words, signals_words, signal_list_words, synonym_words, synonyms_words, point_words, path_words, no_delay_words, channel_words, bound_words, counts_words, parameters_words, fpar_words, initial_words, variables_words, timer_words, timers_words, signal_set_words, local_words, process_words, connect_words, definition_words, block_part_words, block_words, system_definition_words, canonical}
use Rattle.sdl_tree.specs.Erased.{plain, erased_name, erased_sort, erased_expr, erased_signal, erased_signal_list, erased_synonym, erased_synonyms, erased_parameters, erased_fpar, erased_variables, erased_timer, erased_timers, erased_signal_set, erased_local, erased_bound, erased_counts, erased_process, erased_end, erased_path, erased_channel, erased_connection, erased_definition, erased_block_part, erased_block, erased_system_definition, erased}
use Rattle.sdl_tree.specs.Spells.{SpellsSignalName, SpellsSignal, SpellsSignalList, SpellsSynonymName, SpellsSynonym, SpellsPoint, SpellsPath, SpellsNoDelay, SpellsChannel, SpellsBound, SpellsCounts, SpellsParameters, SpellsFpar, SpellsInitial, SpellsVariables, SpellsOne, SpellsTimer, SpellsSignalSet, SpellsPdef, SpellsProcess, SpellsConnect, SpellsDef, SpellsBlockPart, SpellsBlock, SpellsSystemDef, SpellsTree}
use Rattle.sdl_tree.specs.Spells.Parts.{InParentheses, SpellsName, SpellsClosing}
use Rattle.sdl_tree.specs.Tree.{LocalDefinition, LocalSignals, LocalSignalList, LocalSynonyms, LocalSignalSet, Variables, Timers, ChannelEnd, Env, Agent, Definition, Signals, SignalList, Synonyms, Channel, Process, BlockPart, InBlock, Connect, SystemDefinition, InSystem, Block, Tree}
use Rattle.sdl_tree.specs.Words.{Words}
use Rattle.sdl_tree.proofs.Written.{Writes, mark_written, name_written, sort_written, names_written, closing_words, closing_written, both_written, behind_written, before_written, followed_written, ended_written, optional_written, separated_written, repeated_written, in_parentheses_written, sigs_written}
use Rattle.sdl_tree.proofs.WrittenExpressions.{expr_written}
use Rattle.sdl_tree.proofs.WrittenTransitions.{start_written}
use Rattle.sdl_tree.proofs.WrittenStates.{body_part_written}

sorts_written : Writes (map erased_sort) (InParentheses SpellsName) (in_parentheses name_words)
sorts_written = in_parentheses_written sort_written

signal_written : Writes erased_signal SpellsSignalName signal_words
signal_written = record { writes = λ d i j k s. (both_written name_written sorts_written).writes (d.name, d.sorts) i j k s }

signals_written : Writes (map erased_signal) SpellsSignal signals_words
signals_written = record { writes = (behind_written (ended_written (separated_written signal_written)) mark.Signal).writes }

signal_list_written : Writes erased_signal_list SpellsSignalList signal_list_words
signal_list_written = record {
  writes = λ l i j k s.
      (both_written (mark_written mark.SignalList) (both_written name_written (behind_written (ended_written sigs_written) mark.Equal))).writes
      (l.word, (l.name, l.items)) i j k s;
}

synonym_written : (depth : ℕ) → Writes erased_synonym (SpellsSynonymName depth) synonym_words
synonym_written depth = record {
  writes = λ d i j k s.
      (both_written name_written (both_written sort_written (behind_written (expr_written depth) mark.Equal))).writes (d.name, (d.sort, d.value)) i j k s;
}

synonyms_written : (depth : ℕ) → Writes erased_synonyms (SpellsSynonym depth) synonyms_words
synonyms_written depth = record {
  writes = λ d i j k s. (both_written (mark_written mark.Synonym) (ended_written (separated_written (synonym_written depth)))).writes (d.word, d.synonyms) i j k s;
}

point_on : (x : ChannelEnd) (i j k : Words) → SpellsPoint x i j → SpellsPoint (erased_end x) (point_words (erased_end x) k) k
point_on (Env w) i j k s = refl
point_on (Agent x) i j k s = refl

point_written : Writes erased_end SpellsPoint point_words
point_written = record { writes = point_on }

path_written : Writes erased_path SpellsPath path_words
path_written = record {
  writes = λ p i j k s.
      (behind_written (both_written point_written (behind_written (both_written point_written (behind_written (ended_written sigs_written) mark.With)) mark.To)) mark.From).writes
      (p.from, (p.to, p.signals)) i j k s;
}

no_delay_on : (x : Bool) (i j k : Words) → SpellsNoDelay x i j → SpellsNoDelay x (no_delay_words x k) k
no_delay_on false i j k s = refl
no_delay_on true i j k s = (plain, refl)

no_delay_written : Writes (λ x. x) SpellsNoDelay no_delay_words
no_delay_written = record { writes = no_delay_on }

channel_written : Writes erased_channel SpellsChannel channel_words
channel_written = record {
  writes = λ c i j k s.
      let paths = both_written no_delay_written (both_written path_written (optional_written path_written)) in
      let name = erased_name c.name in
      let closed = followed_written paths (SpellsClosing mark.EndChannel c.name.text) (closing_words mark.EndChannel name) (closing_written mark.EndChannel name) in
      (both_written (mark_written mark.Channel) (both_written name_written closed)).writes (c.word, (c.name, (c.is_nodelay, (c.first, c.second)))) i j k s;
}

bound_written : (depth : ℕ) → Writes erased_bound (SpellsBound depth) bound_words
bound_written depth = record { writes = λ b i j k s. (behind_written (optional_written (expr_written depth)) mark.Comma).writes b.maximum i j k s }

counts_written : (depth : ℕ) → Writes erased_counts (SpellsCounts depth) counts_words
counts_written depth = record {
  writes = λ c i j k s.
      (both_written (mark_written mark.Open) (before_written (both_written (optional_written (expr_written depth)) (optional_written (bound_written depth))) mark.Close)).writes
      (c.parenthesis, (c.initial, c.bound)) i j k s;
}

parameters_written : Writes erased_parameters SpellsParameters parameters_words
parameters_written = record { writes = λ g i j k s. (both_written names_written sort_written).writes (g.names, g.sort) i j k s }

fpar_written : Writes erased_fpar SpellsFpar fpar_words
fpar_written = record {
  writes = λ f i j k s. (both_written (mark_written mark.Fpar) (ended_written (separated_written parameters_written))).writes (f.word, f.groups) i j k s;
}

initial_written : (depth : ℕ) → Writes (option_map erased_expr) (SpellsInitial depth) (optional initial_words)
initial_written depth = record { writes = (optional_written (behind_written (expr_written depth) mark.Assign)).writes }

variables_written : (depth : ℕ) → Writes erased_variables (SpellsVariables depth) variables_words
variables_written depth = record {
  writes = λ g i j k s. (both_written names_written (both_written sort_written (initial_written depth))).writes (g.names, (g.sort, g.initial)) i j k s;
}

timer_written : (depth : ℕ) → Writes erased_timer (SpellsOne depth) timer_words
timer_written depth = record {
  writes = λ t i j k s. (both_written name_written (both_written sorts_written (initial_written depth))).writes (t.name, (t.sorts, t.duration)) i j k s;
}

timers_written : (depth : ℕ) → Writes erased_timers (SpellsTimer depth) timers_words
timers_written depth = record {
  writes = λ t i j k s. (both_written (mark_written mark.Timer) (ended_written (separated_written (timer_written depth)))).writes (t.word, t.timers) i j k s;
}

signal_set_written : Writes erased_signal_set SpellsSignalSet signal_set_words
signal_set_written = record {
  writes = λ x i j k s. (both_written (mark_written mark.SignalSet) (ended_written sigs_written)).writes (x.word, x.items) i j k s;
}

local_on : (depth : ℕ) → (x : LocalDefinition) (i j k : Words) → SpellsPdef depth x i j → SpellsPdef depth (erased_local x) (local_words (erased_local x) k) k
local_on depth (LocalSignals signals) i j k s = signals_written.writes signals i j k s
local_on depth (LocalSignalList list) i j k s = signal_list_written.writes list i j k s
local_on depth (LocalSynonyms synonyms) i j k s = (synonyms_written depth).writes synonyms i j k s
local_on depth (LocalSignalSet signals) i j k s = signal_set_written.writes signals i j k s
local_on depth (Variables groups) i j k s = (behind_written (ended_written (separated_written (variables_written depth))) mark.Dcl).writes groups i j k s
local_on depth (Timers timers) i j k s = (timers_written depth).writes timers i j k s

local_written : (depth : ℕ) → Writes erased_local (SpellsPdef depth) local_words
local_written depth = record { writes = local_on depth }

process_written : (depth : ℕ) → Writes erased_process (SpellsProcess depth) process_words
process_written depth = record {
  writes = λ p i j k s.
      let name = erased_name p.name in
      let body = followed_written (repeated_written (body_part_written depth)) (SpellsClosing mark.EndProcess p.name.text) (closing_words mark.EndProcess name)
      (closing_written mark.EndProcess name) in
      let locals = repeated_written (local_written depth) in
      let counts = ended_written (optional_written (counts_written depth)) in
      (both_written (mark_written mark.Process)
      (both_written name_written (both_written counts (both_written (optional_written fpar_written) (both_written locals (both_written (start_written depth) body)))))).writes
      (p.word, (p.name, (p.counts, (p.parameters, (p.definitions, (p.start, p.body)))))) i j k s;
}

connect_written : Writes erased_connection SpellsConnect connect_words
connect_written = record {
  writes = λ c i j k s.
      (both_written (mark_written mark.Connect) (both_written names_written (behind_written (ended_written names_written) mark.And))).writes
      (c.word, (c.outer, c.inner)) i j k s;
}

definition_on : (depth : ℕ) → (x : Definition) (i j k : Words) → SpellsDef depth x i j → SpellsDef depth (erased_definition x) (definition_words (erased_definition x) k) k
definition_on depth (Signals signals) i j k s = signals_written.writes signals i j k s
definition_on depth (SignalList list) i j k s = signal_list_written.writes list i j k s
definition_on depth (Synonyms synonyms) i j k s = (synonyms_written depth).writes synonyms i j k s
definition_on depth (Channel channel) i j k s = channel_written.writes channel i j k s
definition_on depth (Process process) i j k s = (process_written depth).writes process i j k s

block_part_on : (depth : ℕ) → (x : BlockPart) (i j k : Words) → SpellsBlockPart depth x i j → SpellsBlockPart depth (erased_block_part x) (block_part_words (erased_block_part x) k) k
block_part_on depth (InBlock definition) i j k s = definition_on depth definition i j k s
block_part_on depth (Connect connection) i j k s = connect_written.writes connection i j k s

block_part_written : (depth : ℕ) → Writes erased_block_part (SpellsBlockPart depth) block_part_words
block_part_written depth = record { writes = block_part_on depth }

block_written : (depth : ℕ) → Writes erased_block (SpellsBlock depth) block_words
block_written depth = record {
  writes = λ b i j k s.
      let name = erased_name b.name in
      let parts = followed_written (repeated_written (block_part_written depth)) (SpellsClosing mark.EndBlock b.name.text) (closing_words mark.EndBlock name)
      (closing_written mark.EndBlock name) in
      (both_written (mark_written mark.Block) (both_written (ended_written name_written) parts)).writes (b.word, (b.name, b.definitions)) i j k s;
}

system_definition_on : (depth : ℕ) → (x : SystemDefinition) (i j k : Words) → SpellsSystemDef depth x i j →
    SpellsSystemDef depth (erased_system_definition x) (system_definition_words (erased_system_definition x) k) k
system_definition_on depth (InSystem definition) i j k s = definition_on depth definition i j k s
system_definition_on depth (Block block) i j k s = (block_written depth).writes block i j k s

system_definition_written : (depth : ℕ) → Writes erased_system_definition (SpellsSystemDef depth) system_definition_words
system_definition_written depth = record { writes = system_definition_on depth }

pub canonical_spells : (depth : ℕ) → (t : Tree) (i : Words) → SpellsTree depth t i → SpellsTree depth (erased t) (canonical (erased t))
canonical_spells depth t i s =
    let name = erased_name t.name in
    let definitions = followed_written (repeated_written (system_definition_written depth)) (SpellsClosing mark.EndSystem t.name.text)
    (closing_words mark.EndSystem name) (closing_written mark.EndSystem name) in
    (behind_written (both_written (ended_written name_written) definitions) mark.System).writes (t.name, t.definitions) i [] [] s
