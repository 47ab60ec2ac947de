use Rattle.std.proofs.Common.{◌<◌, ◌≤◌, List, arith, rules, subst, sym}
use Rattle.std.proofs.lemmas.Result.{on_ok_weaker}
use Rattle.port_model.specs.declared.inbox.entry.Fuse.{Fuse}
use Rattle.serial_order.specs.RunState.{RunState, armed}
use Rattle.sdl_timers.proofs.Thinning.{thins_all}
use Rattle.sdl_timers.specs.DueOrder.{with_fuse}
use Rattle.sdl_timers.specs.Thinned.{Thins}
use Rattle.serial_run.proofs.Arming.{fuses-armed}
use Rattle.serial_run.proofs.Thinning.{thinned_armed, thinned_fired}
use Rattle.serial_run.specs.Serial.{state_of}
use Rattle.serial_run.specs.Thinned.{IsThinned, is_spent_in}
use Rattle.serial_sweeps.specs.Sweeps.{at_agenda}
use Rattle.serial_run.proofs.instances.Instances.arm.Goals as goal

-- its time has come

pub returns-then-le-clause-state : goal.returns-then-le-clause-state
returns-then-le-clause-state c = λ m g thinned.
    let come : c.args.fuse.due ≤ c.args.agenda.now.clock = search rules in
    on_ok_weaker c.fire.result
    (λ now. subst (λ (h : RunState). IsThinned (armed g c.args.fuse) h) (sym now)
    (thinned_fired g (state_of (at_agenda m c.args.agenda.now) c.args.self.now) c.args.fuse thinned come))
    (c.fire.ensures.state m)

-- it waits

pub returns-clause-state : goal.returns-clause-state
returns-clause-state c = λ m g thinned.
    let late : c.args.agenda.now.clock < c.args.fuse.due = search rules in
    thinned_armed g (state_of (at_agenda m c.args.agenda.now) c.args.self.now) c.args.fuse c.thin.new.self thinned late
    (subst (λ (fuses : List Fuse). Thins (is_spent_in c.args.self.now.instances.items) fuses c.thin.new.self)
    c.in_default.ensures.ok c.thin.ensures)

pub returns-clause-fuses : goal.returns-clause-fuses
returns-clause-fuses c = λ until low all.
    let behind : c.args.agenda.now.clock < c.args.fuse.due = search rules in
    let late : until ≤ c.args.fuse.due = omega (arith, low, behind) in
    thins_all (is_spent_in c.args.self.now.instances.items) (λ (one : Fuse). until ≤ one.due)
    (with_fuse c.args.fuse c.args.agenda.now.fuses) c.thin.new.self
    (subst (λ (fuses : List Fuse). Thins (is_spent_in c.args.self.now.instances.items) fuses c.thin.new.self)
    c.in_default.ensures.ok c.thin.ensures) (fuses-armed until c.args.fuse c.args.agenda.now.fuses late all)
