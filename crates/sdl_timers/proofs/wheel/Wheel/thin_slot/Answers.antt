use Rattle.sdl_timers.proofs.Thinning.{thins_in, thins_none}
use Rattle.sdl_timers.proofs.wheel.Wheel.thin_slot.Goals as goal

pub returns-then-slot_len-eq0 : goal.returns-then-slot_len-eq0
returns-then-slot_len-eq0 g c = thins_none (g.S.SpentFuses.spent c.args.known.now) c.args.self.now

pub invariant_of-self : goal.invariant_of-self
invariant_of-self g c =
    (thins_in (g.S.SpentFuses.spent c.args.known.now) c.self.inside.slots c.self.inside.tournament c.set.new.self
    c.args.slot c.from.result c.index-self-from.result c.thin.new.self c.first-next.result
    c.self.invariant c.ranges.slot.fits c.from.ensures c.thin.ensures c.first-next.ensures c.set.ensures).0

pub returns : goal.returns
returns g c =
    rw (← c.self.view_is)
    (thins_in (g.S.SpentFuses.spent c.args.known.now) c.self.inside.slots c.self.inside.tournament c.set.new.self
    c.args.slot c.from.result c.index-self-from.result c.thin.new.self c.first-next.result
    c.self.invariant c.ranges.slot.fits c.from.ensures c.thin.ensures c.first-next.ensures c.set.ensures).1
