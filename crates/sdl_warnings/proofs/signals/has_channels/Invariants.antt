use Rattle.std.proofs.Common.{◌≡◌, drop, map}
use Rattle.std.specs.List.{list_any}
use Rattle.sdl_tree.specs.Views.{system_definition_value}
use Rattle.sdl_warnings.specs.Signals.{is_channel}
use Rattle.sdl_warnings.proofs.signals.has_channels.Given as goal

abbrev pub invariant-loop-definition : goal.invariant-loop-definition
invariant-loop-definition l =
    list_any is_channel (map system_definition_value (drop l.definition-index l.definitions))
    ≡ list_any is_channel (map system_definition_value l.definitions)
