use Rattle.std.proofs.Common.{◌∙◌, ap, flat_map, map, option_map}
use Rattle.std.proofs.lemmas.List.{take_all}
use Rattle.std.proofs.lemmas.Result.{IfOk-weaker}
use Rattle.build_names.specs.Faults.{least_of}
use Rattle.build_statements.specs.Contexts.{context_of}
use Rattle.build_statements.specs.Faulty.{setting_faults}
use Rattle.build_statements.specs.Statements.{setting_in}
use Rattle.sdl_system.specs.Table.{setting}
use Rattle.sdl_tree.specs.Views.{clause_value}
use Rattle.build_statements.proofs.ListLemmas.{all_made, on_any}
use Rattle.build_statements.proofs.StepLemmas.{noted-next, pushed-next}
use Rattle.build_statements.proofs.timer.resolve_settings.Goals as goal

pub returns-clause-settings : goal.returns-clause-settings
returns-clause-settings c =
    IfOk-weaker c.all_there.result _ _ (λ found is.
    all_made (λ list. list.items) setting found c.loop-clause.found.items _ is
    (c.loop-clause.invariant.settings
    ∙ ap (λ list. map (setting_in (context_of c.args.context.now)) (map clause_value list))
    (take_all c.loop-clause.clause-index c.args.clauses.now c.loop-clause-test.false))) c.all_there.ensures

pub loop-clause-preserved : goal.loop-clause-preserved
loop-clause-preserved c =
    let context = context_of c.args.context.now in
    let list = c.args.clauses.now in
    let i = c.loop-clause.clause-index in
    let one = c.clause-item.result in
    record {
      settings =
          pushed-next clause_value list i one c.loop-clause-test.true c.clause-item.is (option_map setting)
          (setting_in context) c.loop-clause.found.items c.push.new.self.items c.in_ok-resolve_clause.field-0
          c.loop-clause.invariant.settings c.in_ok-resolve_clause.ensures.setting c.in_ok-push.ensures.items;
      noted =
          noted-next clause_value list i one c.loop-clause-test.true c.clause-item.is
          (setting_faults context) c.args.faults.now c.loop-clause.faults
          c.resolve_clause.new.faults c.loop-clause.invariant.noted c.in_ok-resolve_clause.ensures.noted;
    }

pub returns-clause-noted : goal.returns-clause-noted
returns-clause-noted c =
    on_any c.all_there.result (c.loop-clause.invariant.noted
    ∙ ap (λ list. least_of c.args.faults.now (flat_map (setting_faults (context_of c.args.context.now))
    (map clause_value list)))
    (take_all c.loop-clause.clause-index c.args.clauses.now c.loop-clause-test.false))
