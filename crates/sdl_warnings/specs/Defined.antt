-- The names that a specification defines.
use Rattle.std.specs.Prelude.{List, [], ◌∷◌, map}
use Rattle.std.specs.List.{flat_map}
use Rattle.sdl_tree.specs.Tree as tree
use Rattle.sdl_tree.specs.Words.{Spot}
use Rattle.sdl_warnings.specs.Unused.{DefinedValue, defined_value}
use Rattle.sdl_warnings.specs.declared.defined.Names.{Names}
use Rattle.sdl_warnings.specs.declared.suspicion.Suspicion.{Suspicion}
use Rattle.sdl_warnings.specs.declared.suspicion.Suspicion.TheVariants as kind

abbrev pub one : Suspicion → Spot → DefinedValue
one unused name = record { name = name.text; place = name.place; unused = unused }

-- those that are found so far
abbrev pub known : Names → List DefinedValue
known names = map defined_value names.all.items

abbrev pub of_signals : List tree.SignalDefinition → List DefinedValue
of_signals signals = map (λ (signal : tree.SignalDefinition). one kind.UnusedSignal signal.name) signals

abbrev pub of_synonyms : List tree.SynonymDefinition → List DefinedValue
of_synonyms synonyms = map (λ (synonym : tree.SynonymDefinition). one kind.UnusedSynonym synonym.name) synonyms

abbrev pub of_local : tree.LocalDefinition → List DefinedValue
of_local (tree.LocalSignals signals) = of_signals signals
of_local (tree.LocalSignalList list) = one kind.UnusedSignalList list.name ∷ []
of_local (tree.LocalSynonyms synonyms) = of_synonyms synonyms.synonyms
of_local (tree.LocalSignalSet signals) = []
of_local (tree.Variables groups) = []
of_local (tree.Timers timers) = []

abbrev pub of_shared : tree.Definition → List DefinedValue
of_shared (tree.Signals signals) = of_signals signals
of_shared (tree.SignalList list) = one kind.UnusedSignalList list.name ∷ []
of_shared (tree.Synonyms synonyms) = of_synonyms synonyms.synonyms
of_shared (tree.Channel channel) = []
of_shared (tree.Process process) = flat_map of_local process.definitions

abbrev pub of_block_part : tree.BlockPart → List DefinedValue
of_block_part (tree.InBlock definition) = of_shared definition
of_block_part (tree.Connect connection) = []

abbrev pub of_system_part : tree.SystemDefinition → List DefinedValue
of_system_part (tree.InSystem definition) = of_shared definition
of_system_part (tree.Block block) = flat_map of_block_part block.definitions

-- the signals, signal lists and synonyms of a specification
abbrev pub defined : tree.Tree → List DefinedValue
defined text = flat_map of_system_part text.definitions
