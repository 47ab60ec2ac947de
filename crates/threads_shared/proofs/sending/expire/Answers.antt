-- An expiry is no signal.
use Rattle.std.proofs.Common.{◌∙◌}
use Rattle.threads_instance.proofs.Puts.{expired_same}
use Rattle.threads_shared.proofs.sending.expire.Goals as goal

pub returns-clause-signals : goal.returns-clause-signals
returns-clause-signals g c n =
    expired_same c.pid-number.result c.args.at c.args.fuse c.expire.result c.open.new.peers c.expire.new.self
    c.expire.ensures.put n
    ∙ c.open.ensures.same n
