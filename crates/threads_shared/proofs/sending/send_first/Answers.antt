-- The signal is gone, or the new sender puts it.
use Rattle.std.proofs.Common.{refl}
use Rattle.sdl_system.specs.declared.route.Target.TheVariants.{Instance}
use Rattle.threads_shared.proofs.Sent.{gone_to, put_as}
use Rattle.threads_shared.proofs.sending.send_first.Goals as goal

pub returns-then-is_none-clause-sent : goal.returns-then-is_none-clause-sent
returns-then-is_none-clause-sent g c =
    gone_to (Instance c.args.number) c.args.number c.args.peers.now refl c.requires.unknown

pub returns-clause-sent : goal.returns-clause-sent
returns-clause-sent g c =
    put_as (Instance c.args.number) c.args.number c.args.item c.args.item c.args.peers.now c.open.new.peers
    c.put.new.self refl refl c.open.ensures.same c.in-Ok.ensures.put
