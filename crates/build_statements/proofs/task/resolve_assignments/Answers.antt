use Rattle.std.proofs.Common.{◌∙◌, ap, map, option_map}
use Rattle.std.proofs.lemmas.List.{take_all}
use Rattle.std.proofs.lemmas.Result.{IfOk-weaker}
use Rattle.build_statements.specs.Contexts.{context_of}
use Rattle.build_statements.specs.Faulty.{assignment_faults}
use Rattle.build_statements.specs.Statements.{assigning_in}
use Rattle.sdl_system.specs.Table.{assigning}
use Rattle.sdl_tree.specs.Views.{assignment_value}
use Rattle.build_statements.proofs.ListLemmas.{all_made}
use Rattle.build_statements.proofs.StepLemmas.{noted-next, pushed-next}
use Rattle.build_statements.proofs.task.resolve_assignments.Goals as goal

pub returns-clause-assignments : goal.returns-clause-assignments
returns-clause-assignments c =
    IfOk-weaker c.all_there.result _ _ (λ found is.
    all_made (λ list. list.items) assigning found c.loop-assignment.found.items _ is
    (c.loop-assignment.invariant.assignments
    ∙ ap (λ list. map (assigning_in (context_of c.args.context.now)) (map assignment_value list))
    (take_all c.loop-assignment.assignment-index c.args.assignments.now c.loop-assignment-test.false)))
    c.all_there.ensures

pub loop-assignment-preserved : goal.loop-assignment-preserved
loop-assignment-preserved c =
    let context = context_of c.args.context.now in
    let list = c.args.assignments.now in
    let i = c.loop-assignment.assignment-index in
    let one = c.assignment-item.result in
    record {
      assignments =
          pushed-next assignment_value list i one c.loop-assignment-test.true c.assignment-item.is
          (option_map assigning)
          (assigning_in context) c.loop-assignment.found.items c.push.new.self.items c.in_ok-resolve_assignment.field-0
          c.loop-assignment.invariant.assignments c.in_ok-resolve_assignment.ensures.assignment
          c.in_ok-push.ensures.items;
      noted =
          noted-next assignment_value list i one c.loop-assignment-test.true c.assignment-item.is
          (assignment_faults context) c.args.faults.now c.loop-assignment.faults
          c.resolve_assignment.new.faults c.loop-assignment.invariant.noted c.in_ok-resolve_assignment.ensures.noted;
    }
