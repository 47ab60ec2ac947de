-- What callers see of a replay: the run, and who in it may have something to do.
use Rattle.std.specs.Prelude.{◌≡◌, ◌⊎◌, ◌≢◌, ◌↔◌, ◌+◌, ◌<◌, ◌≤◌, ℕ, Bool, true, false, List, [], All, Contains, Some}
use Rattle.run_order.specs.Interleaving.{IsNothingDue}
use Rattle.run_order.specs.Kept.{IsNextTime}
use Rattle.run_order.specs.OrderState.{OrderState, member_at}
use Rattle.run_order.specs.declared.member.Member.{Member}
use Rattle.serial_order.specs.Execution.{IsNoFuseBefore}

-- A run between two happenings, and the numbers of the instances that may have something to do.
pub record ReplayState : Type 0 where
  pub order : OrderState
  pub noted : List ℕ

-- these are numbers of nobody
abbrev pub IsNobody : List ℕ → Type 0
IsNobody noted = (number : ℕ) → Contains noted number → ⊥

-- nobody behind this number is noted; or this one is the first of them
abbrev pub IsNobodyBehind : List ℕ → ℕ → Type 0
IsNobodyBehind noted behind = (number : ℕ) → Contains noted number → number ≤ behind

pub record IsFirstBehind (noted : List ℕ) (behind next : ℕ) : Type 0 where
  pub is_noted : Contains noted next
  pub behind_it : behind < next
  pub least : (number : ℕ) → Contains noted number → behind < number → next ≤ number

-- the instance of this number, if it has no step to make though nothing is in its way, is noted no more; all others are
-- as they were
abbrev pub IsNotedNoMore : ReplayState → ℕ → ReplayState → Type 0
IsNotedNoMore s number t =
    (m : Member) → member_at s.order.members number ≡ Some m → m.pending ≡ [] → IsNothingDue s.order
    → (n : ℕ) → Contains t.noted n ↔ (Contains s.noted n × (n ≢ number))

-- somebody is noted, something is due, or there is no time to wait for
abbrev pub IsNoTick : OrderState → List ℕ → Type 0
IsNoTick g noted = (IsNobody noted → ⊥) ⊎ (IsNothingDue g → ⊥) ⊎ ((time : ℕ) → IsNextTime g time → ⊥)

-- a step isn't told to its end; of a run that is to be whole, somebody is noted, a line is left, or a fuse is due by
-- the end
abbrev pub IsNotOver : Bool → OrderState → List ℕ → Type 0
IsNotOver true g noted = (IsNobody noted → ⊥) ⊎ (g.script ≢ []) ⊎ (IsNoFuseBefore (g.end + 1) g.fuses → ⊥)
IsNotOver false g noted = All (λ (m : Member). m.pending ≡ []) g.members → ⊥
