-- All are counted.
use Rattle.std.proofs.Common.{◌∙◌, ap, rules, sym}
use Rattle.std.specs.List.{sum_by}
use Rattle.std.proofs.lemmas.List.{take_all}
use Rattle.settle_checks.proofs.SummingEndLemmas.{transitions_all}
use Rattle.settle_checks.specs.declared.summing.summary.Summary.{Summary}
use Rattle.settle_checks.proofs.summing.ends.transitions.Goals as goal

pub returns : goal.returns
returns c =
    c.loop-sum.invariant
    ∙ ap (λ l. sum_by (λ (sum : Summary). sum.course.transitions) l)
    (take_all c.loop-sum.sum-index c.args.sums.now (search rules))
    ∙ sym (transitions_all c.args.records.now c.args.sums.now c.requires)
