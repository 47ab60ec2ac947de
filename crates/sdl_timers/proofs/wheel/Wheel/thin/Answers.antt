use Rattle.std.proofs.Common.{List, subst, sym}
use Rattle.port_model.specs.declared.inbox.entry.Fuse.{Fuse}
use Rattle.sdl_timers.specs.Thinned.{Thins}
use Rattle.sdl_timers.proofs.Thinning.{thins_none, thins_on}
use Rattle.sdl_timers.proofs.wheel.Wheel.thin.Goals as goal
use Rattle.sdl_timers.proofs.wheel.Wheel.thin.Goals.{else-loop-slot-test, then-loop-slot-test+else-slot-lt255}

pub loop-slot-init : goal.loop-slot-init
loop-slot-init g c = thins_none (g.S.SpentFuses.spent c.args.known.now) c.args.self.now

pub loop-slot-preserved : goal.loop-slot-preserved
loop-slot-preserved g c =
    thins_on (g.S.SpentFuses.spent c.args.known.now) c.args.self.now c.loop-slot.self c.thin_slot.new.self
    c.loop-slot.invariant c.thin_slot.ensures

pub returns-after-loop-slot : goal.returns-after-loop-slot
returns-after-loop-slot g c =
    let spent = g.S.SpentFuses.spent c.args.known.now in
    let first = c.args.self.now in
    let Left : List Fuse → Type 0 = Thins spent first in
    subst Left (sym c.set_bound.ensures)
    (elim c.loop-slot-test.branch [
      | else-loop-slot-test w ↦ subst Left (sym w.self-is) c.loop-slot.invariant
      | then-loop-slot-test+else-slot-lt255 w ↦
          subst Left (sym w.self-is)
          (thins_on spent first c.loop-slot.self w.thin_slot.new.self c.loop-slot.invariant w.thin_slot.ensures)
    ])

pub returns-else-is_crowded : goal.returns-else-is_crowded
returns-else-is_crowded g c = thins_none (g.S.SpentFuses.spent c.args.known.now) c.args.self.now
