use Rattle.std.proofs.Common.{◌∙◌, ap, flat_map, map, option_map}
use Rattle.std.proofs.lemmas.List.{take_all}
use Rattle.std.proofs.lemmas.Result.{IfOk-weaker}
use Rattle.build_names.specs.Faults.{least_of}
use Rattle.build_statements.specs.Contexts.{context_of}
use Rattle.build_statements.specs.Faulty.{sending_faults}
use Rattle.build_statements.specs.Statements.{sending_in}
use Rattle.sdl_system.specs.Table.{sending}
use Rattle.sdl_tree.specs.Views.{applied_value}
use Rattle.build_statements.proofs.ListLemmas.{all_made, on_any}
use Rattle.build_statements.proofs.StepLemmas.{noted-next, pushed-next}
use Rattle.build_statements.proofs.output.resolve_signals.Goals as goal

pub returns-clause-signals : goal.returns-clause-signals
returns-clause-signals c =
    IfOk-weaker c.all_there.result _ _ (λ found is.
    all_made (λ list. list.items) sending found c.loop-applied.found.items _ is
    (c.loop-applied.invariant.signals
    ∙ ap (λ list. map (sending_in (context_of c.args.context.now)) (map applied_value list))
    (take_all c.loop-applied.applied-index c.args.outputs.now c.loop-applied-test.false))) c.all_there.ensures

pub loop-applied-preserved : goal.loop-applied-preserved
loop-applied-preserved c =
    let context = context_of c.args.context.now in
    let list = c.args.outputs.now in
    let i = c.loop-applied.applied-index in
    let one = c.applied-item.result in
    record {
      signals =
          pushed-next applied_value list i one c.loop-applied-test.true c.applied-item.is (option_map sending)
          (sending_in context) c.loop-applied.found.items c.push.new.self.items c.in_ok-resolve_signal.field-0
          c.loop-applied.invariant.signals c.in_ok-resolve_signal.ensures.signal c.in_ok-push.ensures.items;
      noted =
          noted-next applied_value list i one c.loop-applied-test.true c.applied-item.is
          (sending_faults context c.args.has_destination) c.args.faults.now c.loop-applied.faults
          c.resolve_signal.new.faults c.loop-applied.invariant.noted c.in_ok-resolve_signal.ensures.noted;
    }

pub returns-clause-noted : goal.returns-clause-noted
returns-clause-noted c =
    on_any c.all_there.result (c.loop-applied.invariant.noted
    ∙ ap (λ list. least_of c.args.faults.now (flat_map
    (sending_faults (context_of c.args.context.now) c.args.has_destination) (map applied_value list)))
    (take_all c.loop-applied.applied-index c.args.outputs.now c.loop-applied-test.false))
