use Rattle.std.proofs.Common.{◌∙◌, ap, option_map}
use Rattle.build_names.proofs.FaultLemmas.{both_noted}
use Rattle.build_names.specs.Faults.{least_of}
use Rattle.build_expressions.specs.Answers.{compared_faults}
use Rattle.build_expressions.specs.Misused.{expression_faults}
use Rattle.build_expressions.specs.Resolved.{typed_of}
use Rattle.build_expressions.specs.Scope.{scope_of}
use Rattle.build_expressions.specs.Typing.{typed_in}
use Rattle.build_expressions.specs.Words.{first_word}
use Rattle.build_expressions.specs.declared.context.Context.TheVariants.{Constant}
use Rattle.sdl_tree.specs.Views.{expr_value}
use Rattle.build_expressions.proofs.answers.resolve_value.Goals as goal

pub returns-clause-noted : goal.returns-clause-noted
returns-clause-noted c =
    let scope = scope_of c.args.scope.now in
    let value = expr_value c.args.value.now in
    let question = c.args.question in
    let begun = c.resolve_in.new.faults in
    let last = compared_faults question (first_word value) (typed_in Constant scope value) in
    c.compared.ensures.noted
    ∙ ap (λ word. least_of begun (compared_faults question word (option_map typed_of c.in_ok-typed.typed)))
    c.first_token.ensures
    ∙ ap (λ typed. least_of begun (compared_faults question (first_word value) typed)) c.in_ok-typed.ensures.typed
    ∙ ap (λ before. least_of before last) c.in_ok-typed.ensures.noted
    ∙ both_noted c.args.faults.now (expression_faults Constant scope value) last
