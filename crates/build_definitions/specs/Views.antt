-- What the code keeps of definitions.
use Rattle.std.specs.Prelude.{List, map}
use Rattle.build_definitions.specs.Parts as parts
use Rattle.build_definitions.specs.declared.part.Part.{Part}
use Rattle.build_definitions.specs.declared.part.Part.TheVariants as part
use Rattle.build_definitions.specs.declared.part.Placed.{Placed}
use Rattle.sdl_tree.specs.Views.{block_value, process_value, channel_value, connection_value, signal_value, timer_value, signal_list_value, synonym_value, signal_set_value, parameters_value, variables_value}

abbrev pub part_value : Part → parts.Part
part_value (part.Block number definition) = parts.OfBlock number (block_value definition.now)
part_value (part.Process number definition) = parts.OfProcess number (process_value definition.now)
part_value (part.Channel definition) = parts.OfChannel (channel_value definition.now)
part_value (part.Connection definition) = parts.OfConnection (connection_value definition.now)
part_value (part.Signals signals) = parts.OfSignals (map signal_value signals.now)
part_value (part.Timers timers) = parts.OfTimers (map timer_value timers.now)
part_value (part.SignalList definition) = parts.OfSignalList (signal_list_value definition.now)
part_value (part.Synonyms synonyms) = parts.OfSynonyms (map synonym_value synonyms.now)
part_value (part.SignalSet definition) = parts.OfSignalSet (signal_set_value definition.now)
part_value (part.Parameters group) = parts.OfParameters (parameters_value group.now)
part_value (part.Variables group) = parts.OfVariables (variables_value group.now)

abbrev pub placed_value : Placed → parts.Placed
placed_value placed = record { scope = placed.scope; part = part_value placed.part }

abbrev pub parts_listed : List Placed → List parts.Placed
parts_listed list = map placed_value list
