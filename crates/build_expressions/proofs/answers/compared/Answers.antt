use Rattle.std.proofs.Common.{◌∙◌, None, ap, option_map}
use Rattle.build_names.proofs.FaultLemmas.{both_noted}
use Rattle.build_names.specs.Faults.{fault_if, least_of, token_word}
use Rattle.build_names.specs.declared.faults.fault.Rule.TheVariants.{Sort}
use Rattle.build_expressions.specs.Answers.{comparable_in, is_incomparable}
use Rattle.build_expressions.specs.Constants.{counted_faults}
use Rattle.build_expressions.specs.Resolved.{typed_of}
use Rattle.build_expressions.proofs.answers.compared.Goals as goal

pub returns-clause-noted : goal.returns-clause-noted
returns-clause-noted c =
    let question = c.args.question in
    let word = token_word c.args.token in
    let typed = option_map typed_of c.args.typed in
    let last = counted_faults None word (comparable_in question typed) in
    c.counted.ensures.noted
    ∙ ap (λ value. least_of c.comparable-comparable.new.faults (counted_faults None word value))
    c.comparable-comparable.ensures.comparable
    ∙ ap (λ before. least_of before last) c.comparable-comparable.ensures.noted
    ∙ both_noted c.args.faults.now (fault_if (is_incomparable question typed) Sort word) last
