use Rattle.std.proofs.Common.{◌≡◌, ◌<◌, ◌∙◌, [], Option, set, refl, rules, subst, sym}
use Rattle.std.specs.List.{All}
use Rattle.std.proofs.lemmas.List.Elements.{All-nil}
use Rattle.port_model.specs.declared.inbox.entry.Fuse.{Fuse}
use Rattle.sdl_timers.specs.DueOrder.{Fires}
use Rattle.sdl_timers.proofs.Firing.{HasFired, fires_in, no_fuse, not_due}
use Rattle.sdl_timers.proofs.wheel.Wheel.fire.Goals as goal

pub returns-in_err-due-clause-fires : goal.returns-in_err-due-clause-fires
returns-in_err-due-clause-fires c =
    let none : c.args.self.now ≡ [] = sym c.self.view_is ∙ no_fuse _ _ c.self.invariant c.in_err-due.ensures in
    subst (λ (o : Option Fuse). Fires c.args.self.now c.args.to o c.args.self.now) (sym c.from_residual.ensures)
    (subst (All (λ fuse. c.args.to < fuse.due)) (sym none) (All-nil (λ fuse. c.args.to < fuse.due)), refl)

pub returns-then-lt-clause-fires : goal.returns-then-lt-clause-fires
returns-then-lt-clause-fires c = (subst (All (λ fuse. c.args.to < fuse.due)) c.self.view_is (not_due _ _ _ c.args.to c.self.invariant c.in_ok-due.ensures (search rules)), refl)

fired : (c : goal.After-set) → HasFired c.self.inside.slots (set c.self.inside.slots c.from.result c.take_first-fuse.new.self) c.set.new.self c.in_ok-due.due c.take_first-fuse.result
fired c = fires_in c.self.inside.slots c.self.inside.tournament c.set.new.self c.in_ok-due.due c.slot-slot.result c.from.result c.index-self-from.result c.take_first-fuse.new.self c.first-first.result c.take_first-fuse.result c.self.invariant
    c.in_ok-due.ensures c.slot-slot.ensures c.from.ensures c.take_first-fuse.ensures c.first-first.ensures c.set.ensures

pub invariant_of-self : goal.invariant_of-self
invariant_of-self c = (fired c).wheel

pub returns-clause-fires : goal.returns-clause-fires
returns-clause-fires c = rw (← c.self.view_is) ((fired c).fires c.args.to (search rules))

pub returns-clause-first : goal.returns-clause-first
returns-clause-first c = rw (← c.self.view_is) (fired c).first
