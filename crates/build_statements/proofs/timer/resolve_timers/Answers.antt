use Rattle.std.proofs.Common.{◌∙◌, ◌++◌, ap, flat_map, map, option_map}
use Rattle.std.proofs.lemmas.List.{take_all}
use Rattle.std.proofs.lemmas.Result.{IfOk-weaker}
use Rattle.build_statements.specs.Contexts.{context_of}
use Rattle.build_names.specs.Faults.{least_of}
use Rattle.build_statements.specs.Faulty.{timing_faults}
use Rattle.build_statements.specs.Statements.{timing_in}
use Rattle.sdl_system.specs.Table.{timing}
use Rattle.sdl_tree.specs.Views.{applied_value, group_value}
use Rattle.build_statements.proofs.ListLemmas.{all_made, on_any}
use Rattle.build_statements.proofs.StepLemmas.{joined-next, noted-next}
use Rattle.build_statements.proofs.timer.resolve_timers.Goals as goal

pub returns-clause-timers : goal.returns-clause-timers
returns-clause-timers c =
    IfOk-weaker c.all_there.result _ _ (λ found is.
    all_made (λ list. list.items) timing found c.loop-group.found.items _ is
    (c.loop-group.invariant.timers
    ∙ ap (λ list. flat_map (map (timing_in (context_of c.args.context.now))) (map group_value list))
    (take_all c.loop-group.group-index c.args.groups.now c.loop-group-test.false))) c.all_there.ensures

pub loop-group-preserved : goal.loop-group-preserved
loop-group-preserved c =
    let context = context_of c.args.context.now in
    let groups = c.args.groups.now in
    let i = c.loop-group.group-index in
    let group = c.group-item.result in
    record {
      timers =
          joined-next group_value groups i group c.loop-group-test.true c.group-item.is (map (timing_in context))
          (map (option_map timing) c.loop-group.found.items) (map (option_map timing) c.resolve_group.new.found.items)
          c.loop-group.invariant.timers
          (c.in_ok-resolve_group.ensures.timers ∙ ap (λ list. map (option_map timing) c.loop-group.found.items
          ++ map (timing_in context) (map applied_value list)) c.deref.ensures.value);
      noted =
          noted-next group_value groups i group c.loop-group-test.true c.group-item.is
          (flat_map (timing_faults context)) c.args.faults.now c.loop-group.faults c.resolve_group.new.faults
          c.loop-group.invariant.noted
          (c.in_ok-resolve_group.ensures.noted ∙ ap (λ list. least_of c.loop-group.faults
          (flat_map (timing_faults context) (map applied_value list))) c.deref.ensures.value);
    }

pub returns-clause-noted : goal.returns-clause-noted
returns-clause-noted c =
    on_any c.all_there.result (c.loop-group.invariant.noted
    ∙ ap (λ list. least_of c.args.faults.now
    (flat_map (flat_map (timing_faults (context_of c.args.context.now))) (map group_value list)))
    (take_all c.loop-group.group-index c.args.groups.now c.loop-group-test.false))
