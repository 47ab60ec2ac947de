-- One number more is not named.
use Rattle.std.proofs.Common.{◌≡◌, ◌++◌, ◌∷◌, [], false, subst, sym}
use Rattle.settle_checks.proofs.NameLemmas.{none_named}
use Rattle.settle_checks.specs.Names.{AreNamedBy}
use Rattle.settle_checks.proofs.names.no_names.Goals as goal

pub loop-number-preserved : goal.loop-number-preserved
loop-number-preserved c =
    let pushed : c.push.new.self.items ≡ c.loop-number.named.items ++ false ∷ [] = c.in_ok-push.ensures.items in
    subst (AreNamedBy []) (sym pushed) (none_named c.loop-number.named.items c.loop-number.invariant)
