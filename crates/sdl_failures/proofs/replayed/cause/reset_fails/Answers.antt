use Rattle.sdl_failures.proofs.ConditionLemmas.{item_read}
use Rattle.sdl_failures.proofs.replayed.cause.reset_fails.Goals as goal

pub returns-in-Some : goal.returns-in-Some
returns-in-Some c = λ yes. record {
  one = c.in-Some.one.now;
  is = item_read c.args.list.now c.args.part c.in-Some.one c.in-Some.ensures.lookup;
  holds = c.timer_fails.ensures yes;
}
