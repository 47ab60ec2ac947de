use Rattle.std.proofs.Common.{◌-◌, subst, sym}
use Rattle.serial_sweeps.specs.Sweeps.{Moment, after, at_agenda, moment_of}
use Rattle.serial_sweeps.specs.declared.instance_set.Made.{Made}
use Rattle.serial_sweeps.specs.declared.scheduler.Scheduler.{Scheduler}
use Rattle.serial_sweeps.proofs.scheduler.Scheduler.step.Goals as goal

pub returns-in-Nothing-clause-runs : goal.returns-in-Nothing-clause-runs
returns-in-Nothing-clause-runs g c = λ last.
    let m : Moment = moment_of c.args.self.now in
    let turn = c.args.turn in
    let now : Moment = at_agenda m c.step.new.agenda in
    subst (λ (made : Made).
    g.A.InstanceSet.Reaches last m c.args.instances.now (after made turn.number turn.bound now) c.step.new.self) c.in-Nothing.is
    (c.in_ok-step.ensures.runs last turn.bound m
    (record { some = c.requires.left; nothing_due = c.requires.due; turn = c.requires.next.turn }))

pub returns-in-Failure-clause-runs : goal.returns-in-Failure-clause-runs
returns-in-Failure-clause-runs g c = λ last.
    let m : Moment = moment_of c.args.self.now in
    let turn = c.args.turn in
    let now : Moment = at_agenda m c.step.new.agenda in
    subst (λ (u : Scheduler). g.A.InstanceSet.Reaches last m c.args.instances.now (moment_of u) c.step.new.self) (sym c.pass.ensures)
    (subst (λ (made : Made).
    g.A.InstanceSet.Reaches last m c.args.instances.now (after made turn.number turn.bound now) c.step.new.self) c.in-Failure.is
    (c.in_ok-step.ensures.runs last turn.bound m
    (record { some = c.requires.left; nothing_due = c.requires.due; turn = c.requires.next.turn })))

pub returns-in-Transition-clause-runs : goal.returns-in-Transition-clause-runs
returns-in-Transition-clause-runs g c = λ last.
    let m : Moment = moment_of c.args.self.now in
    let turn = c.args.turn in
    let now : Moment = at_agenda m c.step.new.agenda in
    subst (λ (u : Scheduler).
    g.A.InstanceSet.Reaches last m c.args.instances.now (moment_of (record u { left = u.left - 1 })) c.step.new.self)
    (sym c.pass-in-Transition.ensures)
    (subst (λ (made : Made).
    g.A.InstanceSet.Reaches last m c.args.instances.now (after made turn.number turn.bound now) c.step.new.self)
    c.in-Transition.is
    (c.in_ok-step.ensures.runs last turn.bound m
    (record { some = c.requires.left; nothing_due = c.requires.due; turn = c.requires.next.turn })))
