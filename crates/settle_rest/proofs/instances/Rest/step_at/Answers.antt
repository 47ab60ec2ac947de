use Rattle.settle_rest.proofs.ReadyNumbers.{numbers_left}
use Rattle.settle_rest.proofs.instances.Rest.step_at.Goals as goal

-- no instance can have the number

pub returns-in_default-clause-fits : goal.returns-in_default-clause-fits
returns-in_default-clause-fits g c =
    numbers_left c.args.number c.args.agenda.now.ready c.rest.new.self c.rest.ensures.left c.requires.fits

-- nobody is there

pub returns-in_default-as_mut-clause-fits : goal.returns-in_default-as_mut-clause-fits
returns-in_default-as_mut-clause-fits g c =
    numbers_left c.args.number c.args.agenda.now.ready c.rest-in_default-as_mut.new.self
    c.rest-in_default-as_mut.ensures.left c.requires.fits
