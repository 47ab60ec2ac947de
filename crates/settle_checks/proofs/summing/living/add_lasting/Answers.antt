-- The instance lasts, or is none of them.
use Rattle.std.proofs.Common.{◌∙◌, subst, sym}
use Rattle.settle_checks.proofs.SummingLivingLemmas.{lasting_more}
use Rattle.settle_checks.specs.Least.{Adds}
use Rattle.settle_checks.proofs.summing.living.add_lasting.Goals as goal

pub returns : goal.returns
returns c = λ added done has.
    let old = c.args.first.now.items in
    let new = c.add_living.new.first.items in
    let trace = c.args.trace.now in
    lasting_more done trace old new (sym c.is_lasting.ensures ∙ c.if-not-is_lasting.false)
    (subst (λ n. Adds old trace.process n new) c.pid.ensures
    (subst (λ p. Adds old p c.pid.result new) c.process.ensures (c.add_living.ensures added)))
    has
