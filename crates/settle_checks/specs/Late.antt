-- What is left of what a sender sends to an instance, if the first signals are missing.
use Rattle.std.specs.Prelude.{◌≡◌, ◌≤◌, ◌-◌, ℕ, List, All, drop, filter, length, take}
use Rattle.run_record.specs.Event.{Event}
use Rattle.settle_meaning.specs.Times.{time_by}
use Rattle.settle_checks.specs.Flows.{AreFlows, is_with, sent_passes}
use Rattle.settle_checks.specs.declared.summing.flows.Flow.{Flow}
use Rattle.settle_checks.specs.declared.summing.flows.Pass.{Pass}

-- those of the signals that go to the instance
abbrev pub passes_with : ℕ → List Pass → List Pass
passes_with number passes = filter (is_with number) passes

-- The first so many of the signals to the instance were sent at this time at the latest, and all others to it, and nothing
-- else, are in these flows.
pub record IsLate (passes : List Pass) (number missing born : ℕ) (flows : List Flow) : Type 0 where
  pub early : All (λ (pass : Pass). pass.at ≤ born) (take missing (passes_with number passes))
  pub rest : AreFlows (drop missing (passes_with number passes)) flows

-- so it is by these signals, and so many are still missing
pub record IsRestOf (done : List Pass) (number missing born left : ℕ) (flows : List Flow) : Type 0 where
  pub left_are : left ≡ missing - length (passes_with number done)
  pub late : IsLate done number missing born flows

-- the time after these events, and all signals that they send to instances
pub record IsSightOf (done : List Event) (time : ℕ) (passes : List Pass) : Type 0 where
  pub time_is : time ≡ time_by 0 done
  pub passes_are : passes ≡ sent_passes 0 done
