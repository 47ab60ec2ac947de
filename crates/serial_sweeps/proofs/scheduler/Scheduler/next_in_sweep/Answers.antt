use Rattle.std.proofs.Common.{IfNone, Option, None, Some, arith, ◌+◌}
use Rattle.serial_sweeps.specs.Sweeps.{NoneBetween}
use Rattle.serial_sweeps.proofs.scheduler.Scheduler.next_in_sweep.Goals as goal

if_none : {A : Type 0} (r : Option A) (P : Type 0) → P → IfNone r P
if_none None P p = p
if_none (Some x) P p = tt

pub returns-in_err-number-clause-none : goal.returns-in_err-number-clause-none
returns-in_err-number-clause-none c =
    let s = c.args.self.now in
    if_none c.from_residual.result (NoneBetween s.agenda.ready s.turn (s.bound + 1))
    (λ n has above below.
    let none = c.in_err-number.ensures.none n has in
    let no : ⊥ = omega (arith, none, above) in no)

pub returns-then-number-self-clause-next : goal.returns-then-number-self-clause-next
returns-then-number-self-clause-next c = (
  c.in_ok-number.ensures.next.0,
  c.in_ok-number.ensures.next.1,
  c.if-number-self.true,
  λ n has above below.
      let least = c.in_ok-number.ensures.least n has above in
      let no : ⊥ = omega (arith, least, below) in no,
)

pub returns-else-number-self-clause-none : goal.returns-else-number-self-clause-none
returns-else-number-self-clause-none c =
    λ n has above below.
    let least = c.in_ok-number.ensures.least n has above in
    let no : ⊥ = omega (arith, least, below, c.if-number-self.false) in no
