use Rattle.std.proofs.Common.{◌∙◌, ◌%◌, ap}
use Rattle.sdl_timers.specs.declared.due.Due.{Due}
use Rattle.sdl_timers.proofs.Firing.{arms_in}
use Rattle.sdl_timers.proofs.wheel.Wheel.arm.Goals as goal

pub invariant_of-self-2 : goal.invariant_of-self-2
invariant_of-self-2 c =
    (arms_in c.self.inside.slots c.self.inside.tournament c.set.new.self c.args.fuse c.slot-slot.result c.from.result c.index-self-from.result c.arm.new.self c.first-first.result c.self.invariant
    (c.slot-slot.ensures ∙ ap (λ (d : Due). d.time % 256) c.of.ensures) c.from.ensures c.in_ok-arm.ensures.ok c.first-first.ensures c.set.ensures).0

pub returns-clause-ok : goal.returns-clause-ok
returns-clause-ok c =
    rw (← c.self.view_is)
    (arms_in c.self.inside.slots c.self.inside.tournament c.set.new.self c.args.fuse c.slot-slot.result c.from.result c.index-self-from.result c.arm.new.self c.first-first.result c.self.invariant
    (c.slot-slot.ensures ∙ ap (λ (d : Due). d.time % 256) c.of.ensures) c.from.ensures c.in_ok-arm.ensures.ok c.first-first.ensures c.set.ensures).1
