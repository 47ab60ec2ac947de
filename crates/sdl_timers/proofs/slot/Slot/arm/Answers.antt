use Rattle.std.proofs.Common.{◌≡◌, ◌∙◌, ap, suc, arith}
use Rattle.sdl_timers.specs.DueOrder.{with_fuse}
use Rattle.sdl_timers.proofs.Turning.{armed_in, turns_in, fuses_in}
use Rattle.sdl_timers.proofs.slot.Slot.arm.Goals as goal

pub invariant_of-self-2 : goal.invariant_of-self-2
invariant_of-self-2 c =
    let one_more : c.in-Some.armed ≡ suc c.self.inside.armed = omega (arith, c.in-Some.ensures) in
    rw one_more (rw c.in_default-insert.ensures.entries (rw c.of.ensures (turns_in c.self.inside.armed c.args.fuse _ c.self.invariant)))

pub returns-clause-ok : goal.returns-clause-ok
returns-clause-ok c =
    ap fuses_in c.in_default-insert.ensures.entries
    ∙ rw c.of.ensures (armed_in c.self.inside.armed c.args.fuse _ c.self.invariant) ∙ ap (with_fuse c.args.fuse) c.self.view_is
