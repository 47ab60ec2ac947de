use Rattle.settle_rest.proofs.instances.RestInstanceSet.hear.Goals as goal

pub returns-in_ok-wake-clause-fits : goal.returns-in_ok-wake-clause-fits
returns-in_ok-wake-clause-fits g c = c.wake.ensures.numbers c.requires.fits
