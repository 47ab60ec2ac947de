use Rattle.std.proofs.Common.{map, option_map}
use Rattle.build_statements.specs.Contexts.{context_of}
use Rattle.build_statements.specs.Faulty.{timing_faults}
use Rattle.build_statements.specs.Statements.{timing_in}
use Rattle.sdl_system.specs.Table.{timing}
use Rattle.sdl_tree.specs.Views.{applied_value}
use Rattle.build_statements.proofs.StepLemmas.{noted-next, pushed-behind}
use Rattle.build_statements.proofs.timer.resolve_group.Goals as goal

pub loop-applied-preserved : goal.loop-applied-preserved
loop-applied-preserved c =
    let context = context_of c.args.context.now in
    let list = c.args.timers.now in
    let i = c.loop-applied.applied-index in
    let one = c.applied-item.result in
    record {
      timers =
          pushed-behind applied_value list i one c.loop-applied-test.true c.applied-item.is (option_map timing)
          (timing_in context) (map (option_map timing) c.args.found.now.items) c.loop-applied.found.items
          c.push.new.self.items c.in_ok-resolve_timer.field-0 c.loop-applied.invariant.timers
          c.in_ok-resolve_timer.ensures.timer c.in_ok-push.ensures.items;
      noted =
          noted-next applied_value list i one c.loop-applied-test.true c.applied-item.is (timing_faults context)
          c.args.faults.now c.loop-applied.faults c.resolve_timer.new.faults
          c.loop-applied.invariant.noted c.in_ok-resolve_timer.ensures.noted;
    }
