use Rattle.std.proofs.Common.{◌≡◌, flat_map, map, option_map, take}
use Rattle.build_statements.specs.Contexts.{context_of}
use Rattle.build_statements.specs.Faulty.{sending_faults}
use Rattle.build_statements.specs.Statements.{sending_in}
use Rattle.sdl_system.specs.Table.{sending}
use Rattle.build_names.specs.Faults.{Notes}
use Rattle.sdl_tree.specs.Views.{applied_value}
use Rattle.build_statements.proofs.output.resolve_signals.Given as goal

abbrev pub invariant-loop-applied : goal.invariant-loop-applied
invariant-loop-applied l = record {
  signals : map (option_map sending) l.found.items
      ≡ map (sending_in (context_of l.context)) (map applied_value (take l.applied-index l.outputs));
  noted : Notes l.initial.faults l.faults
      (flat_map (sending_faults (context_of l.context) l.has_destination)
      (map applied_value (take l.applied-index l.outputs)));
}
