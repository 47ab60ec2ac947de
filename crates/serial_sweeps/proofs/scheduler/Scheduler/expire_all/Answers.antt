use Rattle.std.proofs.Common.{◌≡◌, ◌∙◌, ◌+◌, ◌<◌, List, arith, refl, subst, sym, true}
use Rattle.port_model.specs.declared.inbox.entry.Fuse.{Fuse}
use Rattle.serial_sweeps.proofs.Moments.{none_before}
use Rattle.serial_sweeps.specs.Sweeps.{IsNoFuseBefore, Moment, moment_of}
use Rattle.serial_sweeps.proofs.scheduler.Scheduler.expire_all.Goals as goal

pub loop-fuse-init : goal.loop-fuse-init
loop-fuse-init g c = record {
  fits = c.requires.fits;
  clock = refl;
  begun = refl;
  left = refl;
  runs = λ last. g.met.A.InstanceSet.stays last (moment_of c.args.self.now) c.args.instances.now;
}

pub loop-fuse-preserved : goal.loop-fuse-preserved
loop-fuse-preserved g c =
    let s = c.loop-fuse.self in
    let m : Moment = moment_of s in
    let t : Moment = moment_of (record s { agenda = c.expire.new.agenda }) in
    let a = c.loop-fuse.instances in
    let b = c.expire.new.self in
    let so_far = c.loop-fuse.invariant in
    let fires = c.in-Some.ensures.fires in
    let begun : s.begun ≡ true = so_far.begun ∙ c.requires.begun in
    let some : 0 < s.left = omega (arith, so_far.left, c.requires.left) in
    record {
      fits = c.in_ok-expire.ensures.fits;
      clock = c.expire.ensures.clock ∙ so_far.clock;
      begun = so_far.begun;
      left = so_far.left;
      runs = λ last. g.met.A.InstanceSet.goes_on last (moment_of c.args.self.now) m t c.args.instances.now a b
          (so_far.runs last)
          (subst (λ (fuses : List Fuse). g.A.InstanceSet.Reaches last (record m { fuses = fuses }) a t b) (sym fires.0)
          (c.in_ok-expire.ensures.runs last m some begun));
    }

pub returns-clause-runs : goal.returns-clause-runs
returns-clause-runs g c = λ last.
    subst (λ (fuses : List Fuse). g.A.InstanceSet.Reaches last (moment_of c.args.self.now) c.args.instances.now
    (record (moment_of c.loop-fuse.self) { fuses = fuses }) c.loop-fuse.instances)
    (sym c.in_default.ensures.fires.1) (c.loop-fuse.invariant.runs last)

pub returns-clause-done : goal.returns-clause-done
returns-clause-done g c =
    subst (λ (fuses : List Fuse). IsNoFuseBefore (c.loop-fuse.self.agenda.clock + 1) fuses)
    (sym c.in_default.ensures.fires.1)
    (none_before c.loop-fuse.self.agenda.clock c.loop-fuse.self.agenda.fuses c.in_default.ensures.fires.0)
