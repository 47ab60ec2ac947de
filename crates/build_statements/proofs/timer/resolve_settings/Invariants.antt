use Rattle.std.proofs.Common.{◌≡◌, flat_map, map, option_map, take}
use Rattle.build_statements.specs.Contexts.{context_of}
use Rattle.build_statements.specs.Faulty.{setting_faults}
use Rattle.build_statements.specs.Statements.{setting_in}
use Rattle.sdl_system.specs.Table.{setting}
use Rattle.build_names.specs.Faults.{Notes}
use Rattle.sdl_tree.specs.Views.{clause_value}
use Rattle.build_statements.proofs.timer.resolve_settings.Given as goal

abbrev pub invariant-loop-clause : goal.invariant-loop-clause
invariant-loop-clause l = record {
  settings : map (option_map setting) l.found.items
      ≡ map (setting_in (context_of l.context)) (map clause_value (take l.clause-index l.clauses));
  noted : Notes l.initial.faults l.faults
      (flat_map (setting_faults (context_of l.context)) (map clause_value (take l.clause-index l.clauses)));
}
