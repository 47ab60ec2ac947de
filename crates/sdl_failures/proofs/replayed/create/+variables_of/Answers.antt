-- An instance that nobody created, or that another one created.
use Rattle.std.proofs.Common.{◌≡◌, ◌∙◌, List, Option, IfSome, Some, ap, slice_get, subst, sym}
use Rattle.port_model.specs.declared.values.value.Value.{Value}
use Rattle.run_record.specs.Variables.{VariableList}
use Rattle.sdl_system.specs.declared.id.ProcessId.{ProcessId}
use Rattle.sdl_system.specs.declared.process.Process.{Process}
use Rattle.sdl_failures.proofs.CreateLemmas.{begins-first, begins-made, creates_as}
use Rattle.sdl_failures.specs.Received.{variables_from}
use Rattle.sdl_failures.specs.Stands.{BeginsWith, Creates, identity_of}
use Rattle.sdl_failures.proofs.replayed.create.+variables_of.Goals as goal

pub returns-then-is_first : goal.returns-then-is_first
returns-then-is_first t c =
    let system = c.args.system.now in
    let process = c.in-Some.process.now in
    begins-first system c.args.records.now c.args.trace.now process c.in_ok-variables.variables
    (ap (λ (id : ProcessId). slice_get system.processes id.0) (sym c.process-number.ensures) ∙ sym c.in-Some.ensures)
    (c.is_first.ensures c.if-is_first.true)
    (c.in_ok-variables.ensures ∙ ap (λ (values : List Value). variables_from process values) c.none.ensures)

pub returns : goal.returns
returns t c =
    let system = c.args.system.now in
    let records = c.args.records.now in
    let trace = c.args.trace.now in
    let parent = c.in-Some-parent_of.parent.now in
    let before = c.in-Some-before.before in
    begins-made system records trace parent c.in-Some.process.now before c.in_ok-variables-2.variables
    c.in-Some-given.values
    (ap (λ (id : ProcessId). slice_get system.processes id.0) (sym c.process-number.ensures) ∙ sym c.in-Some.ensures)
    c.in-Some-parent_of.ensures.parent c.in-Some-parent_of.ensures.there
    (subst (λ (o : Option VariableList). IfSome o (λ v. BeginsWith system records parent v)) c.in-Some-before.is
    c.in_ok-before.ensures)
    (λ maker is. creates_as system maker (identity_of parent) before parent.events c.process-number.result trace.process
    c.pid.result trace.pid c.in-Some-given.values c.process-number.ensures c.pid.ensures
    (subst (λ (o : Option (List Value)). IfSome o (λ values. (one : Process)
    → slice_get system.processes parent.process.0 ≡ Some one
    → Creates system one (identity_of parent) before parent.events c.process-number.result c.pid.result values))
    c.in-Some-given.is c.in_ok-given.ensures maker is))
    c.in_ok-variables-2.ensures
