-- Nothing is sent to one number more.
use Rattle.std.proofs.Common.{◌≡◌, ◌++◌, ◌∷◌, [], subst, sym}
use Rattle.settle_checks.proofs.TallyLemmas.{row_none}
use Rattle.settle_checks.specs.Outputs.{AreTallied, no_tally}
use Rattle.settle_checks.proofs.outputs.no_tallies.Goals as goal

pub loop-number-preserved : goal.loop-number-preserved
loop-number-preserved c =
    let pushed : c.push.new.self.items ≡ c.loop-number.row.items ++ no_tally ∷ [] = c.in_ok-push.ensures.items in
    subst (AreTallied []) (sym pushed) (row_none c.loop-number.row.items c.loop-number.invariant)
