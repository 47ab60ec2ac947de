use Rattle.std.proofs.Common.{◌≡◌, ◌++◌, flat_map, map, option_map, take}
use Rattle.build_statements.specs.Contexts.{context_of}
use Rattle.build_statements.specs.Faulty.{timing_faults}
use Rattle.build_statements.specs.Statements.{timing_in}
use Rattle.build_names.specs.Faults.{Notes}
use Rattle.sdl_system.specs.Table.{timing}
use Rattle.sdl_tree.specs.Views.{applied_value}
use Rattle.build_statements.proofs.timer.resolve_group.Given as goal

abbrev pub invariant-loop-applied : goal.invariant-loop-applied
invariant-loop-applied l = record {
  timers : map (option_map timing) l.found.items ≡ map (option_map timing) l.initial.found.items
      ++ map (timing_in (context_of l.context)) (map applied_value (take l.applied-index l.timers));
  noted : Notes l.initial.faults l.faults
      (flat_map (timing_faults (context_of l.context)) (map applied_value (take l.applied-index l.timers)));
}
