use Rattle.std.proofs.Common.{rules, ◌≡◌, ◌∙◌, ◌∷◌, List, refl, subst, sym, true}
use Rattle.sdl_script.specs.declared.script.ScriptLine.{ScriptLine}
use Rattle.serial_sweeps.specs.Sweeps.{Moment, moment_of}
use Rattle.serial_sweeps.proofs.scheduler.Scheduler.hear_all.Goals as goal

pub loop-line-init : goal.loop-line-init
loop-line-init g c = record {
  fits = c.requires.fits;
  clock = refl;
  begun = refl;
  fuses = refl;
  left = c.requires.left;
  runs = λ last. g.met.A.InstanceSet.stays last (moment_of c.args.self.now) c.args.instances.now;
}

pub loop-line-preserved : goal.loop-line-preserved
loop-line-preserved g c =
    let s = c.loop-line.self in
    let m : Moment = moment_of s in
    let later = record s { script = c.in-Some.later } in
    let heard : Moment = moment_of later in
    let t : Moment = moment_of (record later { agenda = c.hear.new.agenda }) in
    let a = c.loop-line.instances in
    let b = c.hear.new.self in
    let so_far = c.loop-line.invariant in
    let next : s.script.now ≡ c.in-Some.line.now ∷ c.in-Some.later.now = search rules in
    let begun : s.begun ≡ true = so_far.begun ∙ c.requires.begun in
    record {
      fits = c.in_ok-hear.ensures.fits;
      clock = c.hear.ensures.clock ∙ so_far.clock;
      begun = so_far.begun;
      fuses = c.hear.ensures.fuses ∙ so_far.fuses;
      left = so_far.left;
      runs = λ last. g.met.A.InstanceSet.goes_on last (moment_of c.args.self.now) m t c.args.instances.now a b
          (so_far.runs last)
          (subst (λ (lines : List ScriptLine). g.A.InstanceSet.Reaches last (record m { script = lines }) a t b) (sym next)
          (c.in_ok-hear.ensures.runs last heard so_far.left begun));
    }
