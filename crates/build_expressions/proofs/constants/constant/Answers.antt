use Rattle.std.proofs.Common.{◌∙◌, ap, option_map}
use Rattle.build_names.proofs.FaultLemmas.{both_noted}
use Rattle.build_names.specs.Faults.{least_of}
use Rattle.build_expressions.specs.Constants.{counted_faults}
use Rattle.build_expressions.specs.Misused.{expression_faults, fault_of_place, place_faults}
use Rattle.build_expressions.specs.Resolved.{typed_of}
use Rattle.build_expressions.specs.Scope.{scope_of}
use Rattle.build_expressions.specs.Typing.{taken_in, typed_in}
use Rattle.build_expressions.specs.Words.{first_word}
use Rattle.build_expressions.specs.declared.context.Context.TheVariants.{Constant}
use Rattle.sdl_tree.specs.Views.{expr_value}
use Rattle.build_expressions.proofs.constants.constant.Goals as goal

pub returns-clause-noted : goal.returns-clause-noted
returns-clause-noted c =
    let scope = scope_of c.args.scope.now in
    let value = expr_value c.args.expression.now in
    let sort = c.args.sort in
    let word = first_word value in
    let typed = typed_in Constant scope value in
    let begun = c.resolve_in.new.faults in
    let placed = c.taken-taken.new.faults in
    let misfit = fault_of_place sort word typed in
    let last = counted_faults sort word (taken_in sort typed) in
    c.counted.ensures.noted
    ∙ ap (λ spot. least_of placed (counted_faults sort spot (option_map typed_of c.taken-taken.result)))
    c.first_token-token.ensures
    ∙ ap (λ value. least_of placed (counted_faults sort word value))
    (c.taken-taken.ensures.taken ∙ ap (taken_in sort) c.in_ok-typed.ensures.typed)
    ∙ ap (λ before. least_of before last) (c.taken-taken.ensures.noted
    ∙ ap (λ spot. least_of begun (fault_of_place sort spot (option_map typed_of c.in_ok-typed.typed)))
    c.first_token-token.ensures
    ∙ ap (λ value. least_of begun (fault_of_place sort word value)) c.in_ok-typed.ensures.typed
    ∙ ap (λ before. least_of before misfit) c.in_ok-typed.ensures.noted
    ∙ both_noted c.args.faults.now (expression_faults Constant scope value) misfit)
    ∙ both_noted c.args.faults.now (place_faults Constant scope sort value) last
