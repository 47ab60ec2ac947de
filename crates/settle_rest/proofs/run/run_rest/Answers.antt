use Rattle.std.proofs.Common.{subst, sym}
use Rattle.settle_rest.specs.Woken.{AreNumbers}
use Rattle.settle_rest.proofs.run.run_rest.Goals as goal

pub catch_up-requires-clause-fits : goal.catch_up-requires-clause-fits
catch_up-requires-clause-fits g c = subst AreNumbers (sym c.new-sweeps.ensures.ready) c.in_ok-all.ensures.numbers
