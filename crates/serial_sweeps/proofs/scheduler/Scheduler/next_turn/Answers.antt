use Rattle.std.proofs.Common.{ℕ, IfNone, Option, None, Some, arith, subst, sym}
use Rattle.std.specs.Prelude.{Contains}
use Rattle.serial_sweeps.specs.Sweeps.{IsTurnBy, NoneBetween, begins_anew, goes_on, moment_of}
use Rattle.serial_sweeps.proofs.scheduler.Scheduler.next_turn.Goals as goal

if_none : {A : Type 0} (r : Option A) (P : Type 0) → P → IfNone r P
if_none None P p = p
if_none (Some x) P p = tt

pub returns-in_err-number-clause-none : goal.returns-in_err-number-clause-none
returns-in_err-number-clause-none g c =
    let s = c.args.self.now in
    if_none c.from_residual.result ((n : ℕ) → Contains s.agenda.ready n → ⊥)
    (λ n has.
    let some = g.met.A.InstanceSet.from_one s.agenda.ready c.args.instances.now n c.requires has in
    let none = c.in_err-number.ensures.none n has in
    let no : ⊥ = omega (arith, some, none) in no)

pub returns-clause-next : goal.returns-clause-next
returns-clause-next g c =
    let s = c.args.self.now in
    let first : NoneBetween s.agenda.ready 0 c.in_ok-number.number =
    λ n has above below.
    let least = c.in_ok-number.ensures.least n has above in
    let no : ⊥ = omega (arith, least, below) in no in
    record {
      ready = c.in_ok-number.ensures.next.0;
      turn = subst (IsTurnBy s.agenda.ready (moment_of s) (g.A.InstanceSet.numbers c.args.instances.now) c.in_ok-number.number)
          (sym c.given.ensures) (begins_anew c.in_default.ensures.none first);
    }

pub returns-in-Some-clause-next : goal.returns-in-Some-clause-next
returns-in-Some-clause-next g c =
    let next = c.in-Some.ensures.next in record { ready = next.0; turn = goes_on next.1 next.2 next.3 }
