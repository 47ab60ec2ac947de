use Rattle.std.proofs.Common.{◌≡◌, flat_map, map, option_map, take}
use Rattle.build_statements.specs.Contexts.{context_of}
use Rattle.build_statements.specs.Faulty.{timing_faults}
use Rattle.build_statements.specs.Statements.{timing_in}
use Rattle.build_names.specs.Faults.{Notes}
use Rattle.sdl_system.specs.Table.{timing}
use Rattle.sdl_tree.specs.Views.{group_value}
use Rattle.build_statements.proofs.timer.resolve_timers.Given as goal

abbrev pub invariant-loop-group : goal.invariant-loop-group
invariant-loop-group l = record {
  timers : map (option_map timing) l.found.items
      ≡ flat_map (map (timing_in (context_of l.context))) (map group_value (take l.group-index l.groups));
  noted : Notes l.initial.faults l.faults
      (flat_map (flat_map (timing_faults (context_of l.context))) (map group_value (take l.group-index l.groups)));
}
