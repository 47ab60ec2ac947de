use Rattle.std.proofs.Common.{◌≡◌, ◌∙◌, Bool, true, false, Ok, None, Some, ap, add-one, get_or, subst, sym}
use Rattle.std.proofs.lemmas.Option.{slice_get-get_or}
use Rattle.std.proofs.lemmas.Result.{err_from_is_err_and}
use Rattle.run_record.specs.Knowledge.{environment_of}
use Rattle.run_record.specs.Value.{truth_at}
use Rattle.sdl_interp.proofs.ConditionLemmas.{begins_there, ends_failing, meets_at, none_left, passes}
use Rattle.sdl_interp.specs.Selected.{IsTried}
use Rattle.run_semantics.specs.Selection.{Tried}
use Rattle.sdl_system.specs.declared.state.Continuous.{Continuous}
use Rattle.sdl_interp.proofs.continuous.first_true.Goals as goal

pub returns-in_err-is_condition_true-clause-err : goal.returns-in_err-is_condition_true-clause-err
returns-in_err-is_condition_true-clause-err g c =
    let q = err_from_is_err_and c.from_residual.result c.from_residual.ensures.1 in
    let here = environment_of c.args.knowledge.now in
    let process = c.args.process.now in
    let signals = c.args.signals.now in
    let i = c.loop-signal.signal-index in
    let nothing : Continuous = record { condition = record { 0 = 0 }; number = 0; begin = record { 0 = 0 } } in
    let signal = get_or signals i nothing in
    let listed = slice_get-get_or signals i nothing c.loop-signal-test.true in
    rw (q.1, q.2) (λ entries meant all.
    let meets = meets_at process entries signals meant i signal all listed in
    ends_failing here process entries meant i signal meets _ (c.loop-signal.invariant entries meant all)
    (c.in_err-is_condition_true.ensures.err meets.one.condition meets.means.condition_is))

pub returns-then-branch-clause-ok : goal.returns-then-branch-clause-ok
returns-then-branch-clause-ok g c = λ entries meant all.
    let here = environment_of c.args.knowledge.now in
    let process = c.args.process.now in
    let signals = c.args.signals.now in
    let i = c.loop-signal.signal-index in
    let nothing : Continuous = record { condition = record { 0 = 0 }; number = 0; begin = record { 0 = 0 } } in
    let signal = get_or signals i nothing in
    let listed = slice_get-get_or signals i nothing c.loop-signal-test.true in
    let meets = meets_at process entries signals meant i signal all listed in
    let told : truth_at here meets.one.condition ≡ Ok true =
    c.in_ok-is_condition_true.ensures.ok meets.one.condition meets.means.condition_is
    ∙ ap (λ (b : Bool). Ok b) c.if-branch.true in
    subst (λ (t : Tried). IsTried entries (Some signal) t)
    (sym (c.loop-signal.invariant entries meant all
    ∙ begins_there here process entries meant i signal meets told))
    (meets.means.number_is, meets.means.begins)

pub loop-signal-preserved : goal.loop-signal-preserved
loop-signal-preserved g c = λ entries meant all.
    let here = environment_of c.args.knowledge.now in
    let process = c.args.process.now in
    let signals = c.args.signals.now in
    let i = c.loop-signal.signal-index in
    let nothing : Continuous = record { condition = record { 0 = 0 }; number = 0; begin = record { 0 = 0 } } in
    let signal = get_or signals i nothing in
    let listed = slice_get-get_or signals i nothing c.loop-signal-test.true in
    let meets = meets_at process entries signals meant i signal all listed in
    let told : truth_at here meets.one.condition ≡ Ok false =
    c.in_ok-is_condition_true.ensures.ok meets.one.condition meets.means.condition_is
    ∙ ap (λ (b : Bool). Ok b) c.if-branch.false in
    rw add-one
    (c.loop-signal.invariant entries meant all ∙ passes here process entries meant i signal meets told)

pub returns-clause-ok : goal.returns-clause-ok
returns-clause-ok g c = λ entries meant all.
    let here = environment_of c.args.knowledge.now in
    subst (λ (t : Tried). IsTried entries None t)
    (sym (c.loop-signal.invariant entries meant all
    ∙ none_left here c.args.process.now entries c.args.signals.now meant c.loop-signal.signal-index all
    c.loop-signal-test.false))
    tt
