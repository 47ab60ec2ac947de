use Rattle.std.proofs.Common.{◌∙◌, inl, inr, refl}
use Rattle.serial_sweeps.proofs.Moments.{keeps_time_on}
use Rattle.serial_sweeps.specs.Sweeps.{moment_of}
use Rattle.serial_sweeps.proofs.scheduler.Scheduler.make_transition.Goals as goal

pub loop-turn-init : goal.loop-turn-init
loop-turn-init g c = record {
  fits = c.requires.fits;
  same = record { script = refl; clock = refl; begun = refl };
  due = c.requires.due;
  left = refl;
  runs = λ last. g.met.A.InstanceSet.stays last (moment_of c.args.self.now) c.args.instances.now;
}

pub loop-turn-preserved : goal.loop-turn-preserved
loop-turn-preserved g c =
    let s = c.args.self.now in
    let m = c.loop-turn.self in
    let t = c.step.new.self in
    let so_far = c.loop-turn.invariant in
    let now = c.in_ok-step.ensures in
    record {
      fits = now.fits;
      same = keeps_time_on s m t so_far.same c.step.ensures.same;
      due = now.due;
      left = elim now.still [
        | inl was ↦ let no : ⊥ = cc (was, c.if-branch.false) in absurd no
        | inr still ↦ still.0 ∙ so_far.left
      ];
      runs = λ last. g.met.A.InstanceSet.goes_on last (moment_of s) (moment_of m) (moment_of t) c.args.instances.now
          c.loop-turn.instances c.step.new.instances (so_far.runs last) (now.runs last);
    }

pub returns-then-branch-clause-runs : goal.returns-then-branch-clause-runs
returns-then-branch-clause-runs g c = λ last.
    g.met.A.InstanceSet.goes_on last (moment_of c.args.self.now) (moment_of c.loop-turn.self) (moment_of c.step.new.self)
    c.args.instances.now c.loop-turn.instances c.step.new.instances (c.loop-turn.invariant.runs last)
    (c.in_ok-step.ensures.runs last)

pub returns-clause-still : goal.returns-clause-still
returns-clause-still g c = inr (
  g.met.A.InstanceSet.none_ready c.loop-turn.self.agenda.ready c.loop-turn.instances c.loop-turn.invariant.fits
      c.in_default.ensures.none,
  c.loop-turn.invariant.left,
)
