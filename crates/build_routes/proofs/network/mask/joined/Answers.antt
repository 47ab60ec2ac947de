use Rattle.std.proofs.lemmas.Nat.{or_lt}
use Rattle.build_routes.proofs.network.mask.joined.Goals as goal

pub returns-clause-fits : goal.returns-clause-fits
returns-clause-fits c = or_lt 64 c.args.left c.args.right c.ranges.left.fits c.ranges.right.fits
