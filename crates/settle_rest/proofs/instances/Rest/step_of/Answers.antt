use Rattle.std.proofs.Common.{◌≡◌, ◌∙◌, ap, subst, sym}
use Rattle.sdl_interp.specs.declared.instance.Stepped.TheVariants.{Ended}
use Rattle.serial_sweeps.specs.declared.agenda.Agenda.{Agenda}
use Rattle.serial_sweeps.specs.declared.instance_set.Made.TheVariants.{Transition}
use Rattle.settle_rest.specs.Noted.{made_by}
use Rattle.settle_rest.specs.Woken.{AreNumbers}
use Rattle.settle_rest.proofs.ReadyNumbers.{numbers_left}
use Rattle.settle_rest.proofs.instances.Rest.step_of.Goals as goal
use Rattle.settle_rest.proofs.instances.Rest.step_of.Goals.{in-Moved, in-Ended+else-not-counts}

pub returns-in-Idle-clause-fits : goal.returns-in-Idle-clause-fits
returns-in-Idle-clause-fits g c =
    numbers_left c.args.number c.arm_all.new.agenda.ready c.rest.new.self c.rest.ensures.left
    (subst AreNumbers (sym c.arm_all.ensures.ready) c.requires.fits)

pub returns-then-not-counts-clause-fits : goal.returns-then-not-counts-clause-fits
returns-then-not-counts-clause-fits g c =
    numbers_left c.args.number c.arm_all.new.agenda.ready c.rest-in-Ended.new.self c.rest-in-Ended.ensures.left
    (subst AreNumbers (sym c.arm_all.ensures.ready) c.requires.fits)

pub returns-clause-fits : goal.returns-clause-fits
returns-clause-fits g c =
    let armed : AreNumbers c.arm_all.new.agenda.ready = subst AreNumbers (sym c.arm_all.ensures.ready) c.requires.fits in
    let moved : AreNumbers c.match-stepped.agenda.ready =
    elim c.match-stepped.branch as (λ _. AreNumbers c.match-stepped.agenda.ready) [
      | in-Moved w ↦ subst (λ (a : Agenda). AreNumbers a.ready) (sym w.agenda-is) armed
      | in-Ended+else-not-counts w ↦ subst (λ (a : Agenda). AreNumbers a.ready) (sym w.agenda-is)
          (numbers_left c.args.number c.arm_all.new.agenda.ready w.rest-in-Ended.new.self w.rest-in-Ended.ensures.left armed)
    ] in
    c.wake_all.ensures.numbers (c.wake_created.ensures.numbers moved)

-- ---- what is noted

pub returns-in-Idle-clause-noted : goal.returns-in-Idle-clause-noted
returns-in-Idle-clause-noted g c = λ kept. record {
  stepped = c.step_noted-stepped.result;
  is = sym (ap made_by c.in-Idle.is);
  noted = c.step_noted-stepped.ensures.noted kept;
}

pub returns-then-not-counts-clause-noted : goal.returns-then-not-counts-clause-noted
returns-then-not-counts-clause-noted g c = λ kept. record {
  stepped = c.step_noted-stepped.result;
  is = sym (ap made_by (c.in-Ended.is ∙ ap Ended c.if-not-counts.true));
  noted = c.step_noted-stepped.ensures.noted kept;
}

pub returns-clause-noted : goal.returns-clause-noted
returns-clause-noted g c = λ kept. record {
  stepped = c.step_noted-stepped.result;
  is = elim c.match-stepped.branch as (λ _. Transition ≡ made_by c.step_noted-stepped.result) [
    | in-Moved w ↦ sym (ap made_by w.in-Moved.is)
    | in-Ended+else-not-counts w ↦ sym (ap made_by (w.in-Ended.is ∙ ap Ended w.if-not-counts.false))
  ];
  noted = c.step_noted-stepped.ensures.noted kept;
}
