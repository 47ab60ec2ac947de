use Rattle.run_order.proofs.Timing.{not_so}
use Rattle.run_order.proofs.comparing.say_same.Goals as goal

pub returns-then-not-are_of_one : goal.returns-then-not-are_of_one
returns-then-not-are_of_one c = (
  λ yes. let no : ⊥ = cc in absurd no,
  λ same.
      absurd (not_so c.are_of_one.result c.if-not-are_of_one.true c.are_of_one.ensures.1
      (record { process = same.process; pid = same.pid; parent = same.parent })),
)

pub returns : goal.returns
returns c = (
  λ yes.
      let one = c.are_of_one.ensures.0 c.if-not-are_of_one.false in
      record {
        process = one.process;
        pid = one.pid;
        parent = one.parent;
        events = c.have_same_events.ensures.0 yes;
      },
  λ same. c.have_same_events.ensures.1 same.events,
)
