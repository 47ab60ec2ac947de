use Rattle.std.proofs.Common.{false, subst, sym}
use Rattle.run_semantics.specs.ControlPoint.{Definition}
use Rattle.run_semantics.specs.Goes.{Goes, IsOneStep}
use Rattle.run_semantics.specs.World.{WorldValue}
use Rattle.sdl_interp.proofs.Staying.{same_on}
use Rattle.sdl_interp.specs.Machine.{place_of}
use Rattle.sdl_interp.specs.Running.{seen}
use Rattle.sdl_interp.specs.Work.{IsOf}
use Rattle.sdl_interp.specs.declared.transitions.machine.Position.TheVariants.{Ended}
use Rattle.sdl_interp.proofs.Instances.{idle_is, stepped_is}
use Rattle.sdl_interp.proofs.Stepping.{fails_by, keeps_by, moves_by}
use Rattle.sdl_interp.specs.Instance.{InstanceValue, Keeps, Steps, instance_of}
use Rattle.sdl_interp.specs.declared.instance.Stepped.{Stepped}
use Rattle.sdl_interp.specs.declared.instance.Stepped.TheVariants as stepped
use Rattle.sdl_interp.proofs.instance.Instance.step.Goals as goal

-- it waits

pub invariant_of-self : goal.invariant_of-self
invariant_of-self g c =
    let i = c.self.inside in
    idle_is g.P.Inbox.shared i.position (seen g.P.Inbox.owning g.P.Inbox.since i.core)
    (seen g.P.Inbox.owning g.P.Inbox.since c.step_from.new.core) (g.W.World.value c.args.world.now)
    (g.W.World.value c.step_from.new.world) c.self.invariant c.in-Ok-None.ensures.same
    (rw c.in-Ok-None.field-0-is at c.in-Ok-None.ensures.stepped) (rw c.in-Ok-None.field-0-is at c.in-Ok-None.ensures.ok)

-- it has made a transition

pub invariant_of-self-in-Ok-Some : goal.invariant_of-self-in-Ok-Some
invariant_of-self-in-Ok-Some g c =
    let i = c.self.inside in
    stepped_is g.P.Inbox.shared i.position (seen g.P.Inbox.owning g.P.Inbox.since i.core)
    (seen g.P.Inbox.owning g.P.Inbox.since c.step_from.new.core) (g.W.World.value c.args.world.now)
    (g.W.World.value c.step_from.new.world) c.self.invariant c.in-Ok-Some.ensures.same c.in-Ok-Some.to _
    (rw c.in-Ok-Some.field-0-is at c.in-Ok-Some.ensures.stepped) (rw c.in-Ok-Some.field-0-is at c.in-Ok-Some.ensures.ok)

pub returns-in-Ok-Some : goal.returns-in-Ok-Some
returns-in-Ok-Some g c =
    let i = c.self.inside in
    let to = c.in-Ok-Some.to in
    let k = seen g.P.Inbox.owning g.P.Inbox.since i.core in
    let l = seen g.P.Inbox.owning g.P.Inbox.since c.step_from.new.core in
    let w : WorldValue = g.W.World.value c.args.world.now in
    let v : WorldValue = g.W.World.value c.step_from.new.world in
    let after : InstanceValue = instance_of to l in
    record {
      keeps = subst (λ (old : InstanceValue). Keeps old after) c.self.view_is
          (keeps_by i.position to k l c.in-Ok-Some.ensures.same);
      steps = subst (λ (old : InstanceValue). Steps c.came_to.result old w after v) c.self.view_is
          (subst (λ (s : Stepped). Steps s (instance_of i.position k) w after v) (sym c.came_to.ensures)
          (moves_by i.position k l w v c.in_default.not-Ended to
          (rw c.in-Ok-Some.field-0-is at c.in-Ok-Some.ensures.ok)));
    }

-- it has failed

pub invariant_of-self-in-Err : goal.invariant_of-self-in-Err
invariant_of-self-in-Err g c =
    let i = c.self.inside in
    let k = seen g.P.Inbox.owning g.P.Inbox.since i.core in
    let m = seen g.P.Inbox.owning g.P.Inbox.since c.step_from.new.core in
    let l = seen g.P.Inbox.owning g.P.Inbox.since c.fail_at.new.core in
    stepped_is g.P.Inbox.shared i.position k l (g.W.World.value c.args.world.now)
    (g.W.World.value c.step_from.new.world) c.self.invariant
    (same_on k m l c.in-Err.ensures.same c.fail_at.ensures.same) Ended _
    (record { ready = tt; inside = tt; started = λ is. cc })
    (λ d is. c.in-Err.ensures.err d is l.work c.fail_at.ensures.fails)

pub returns-in-Err : goal.returns-in-Err
returns-in-Err g c =
    let i = c.self.inside in
    let k = seen g.P.Inbox.owning g.P.Inbox.since i.core in
    let m = seen g.P.Inbox.owning g.P.Inbox.since c.step_from.new.core in
    let l = seen g.P.Inbox.owning g.P.Inbox.since c.fail_at.new.core in
    let w : WorldValue = g.W.World.value c.args.world.now in
    let v : WorldValue = g.W.World.value c.fail_at.new.world in
    let after : InstanceValue = instance_of Ended l in
    let goes : (d : Definition) → IsOf k.system k.process d
    → Goes (IsOneStep false) d (place_of i.position) k.work w (place_of Ended) l.work v =
    λ d is. subst (λ (u : WorldValue).
    Goes (IsOneStep false) d (place_of i.position) k.work w (place_of Ended) l.work u) (sym c.fail_at.ensures.quiet)
    (c.in-Err.ensures.err d is l.work c.fail_at.ensures.fails) in
    record {
      keeps = subst (λ (old : InstanceValue). Keeps old after) c.self.view_is
          (keeps_by i.position Ended k l (same_on k m l c.in-Err.ensures.same c.fail_at.ensures.same));
      steps = subst (λ (old : InstanceValue). Steps (stepped.Ended false) old w after v) c.self.view_is
          (fails_by i.position k l w v c.in_default.not-Ended goes);
    }
