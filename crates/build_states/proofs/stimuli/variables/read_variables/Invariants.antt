use Rattle.std.proofs.Common.{◌≡◌, drop, map, option_map, take}
use Rattle.build_names.specs.Faults.{least_of}
use Rattle.build_expressions.specs.Scope.{scope_of}
use Rattle.build_states.specs.Faulty.{variables_faults}
use Rattle.build_states.specs.Mentions.{variables_in}
use Rattle.sdl_tree.specs.Views.{name_value}
use Rattle.build_states.proofs.stimuli.variables.read_variables.Given as goal

abbrev pub invariant-loop-index : goal.invariant-loop-index
invariant-loop-index l = record {
  read : l.read.items ≡ variables_in (scope_of l.scope) (map (option_map name_value) (take l.index l.variables));
  noted : least_of l.faults
      (variables_faults (scope_of l.scope) (drop l.index l.parameters)
      (map (option_map name_value) (drop l.index l.variables)))
      ≡ least_of l.initial.faults
      (variables_faults (scope_of l.scope) l.parameters (map (option_map name_value) l.variables));
}
