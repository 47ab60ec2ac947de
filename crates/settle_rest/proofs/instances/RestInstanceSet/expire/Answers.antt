use Rattle.settle_rest.proofs.instances.RestInstanceSet.expire.Goals as goal

pub returns-clause-fits : goal.returns-clause-fits
returns-clause-fits g c = c.wake.ensures.numbers c.requires.fits
