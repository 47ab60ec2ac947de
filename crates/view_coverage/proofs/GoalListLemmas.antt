-- How many continuous signals of each state are among goals, with one goal more.
use Rattle.std.proofs.Common.{◌≡◌, ◌∙◌, ◌+◌, ◌&&◌, ◌++◌, ℕ, Bool, true, false, cond, List, [], ◌∷◌, Some, ap, arith, refl, sym, unwrap_or}
use Rattle.std.specs.List.{count_by}
use Rattle.std.specs.Map.{lookup}
use Rattle.std.proofs.lemmas.List.Sums.{sum_by_push}
use Rattle.sdl_system.specs.declared.id.StateId.{StateId}
use Rattle.view_coverage.specs.Stimuli.{is_continuous, is_continuous_of, same_state}
use Rattle.view_coverage.specs.declared.goals.goal.StimulusGoal.{StimulusGoal}

state-same : (a b : StateId) → same_state a b ≡ true → a ≡ b
state-same a b same =
    let numbers : a.0 ≡ b.0 = grind arith in
    ap (λ n. record { 0 = n }) numbers

count-pushed : (state : StateId) (goals : List StimulusGoal) (goal : StimulusGoal) (b : Bool)
    → is_continuous_of state goal ≡ b
    → count_by (is_continuous_of state) (goals ++ goal ∷ []) ≡ count_by (is_continuous_of state) goals + cond b 1 0
count-pushed state goals goal b is =
    sum_by_push (λ one. cond (is_continuous_of state one) 1 0) goals goal
    ∙ ap (λ is. count_by (is_continuous_of state) goals + cond is 1 0) is

-- one more that is a continuous signal
pub counts-continuous : (table : List (StateId × ℕ)) (goals : List StimulusGoal) (goal : StimulusGoal)
    (state : StateId) (number : ℕ) → is_continuous goal.awaited ≡ true
    → number ≡ count_by (is_continuous_of goal.state) goals + 1
    → unwrap_or (lookup (same_state state) table) 0 ≡ count_by (is_continuous_of state) goals
    → unwrap_or (cond (same_state goal.state state) (Some number) (lookup (same_state state) table)) 0
    ≡ count_by (is_continuous_of state) (goals ++ goal ∷ [])
counts-continuous table goals goal state number continuous is was = by (same_state goal.state state) refl
  where
    by : (b : Bool) → same_state goal.state state ≡ b
        → unwrap_or (cond b (Some number) (lookup (same_state state) table)) 0
        ≡ count_by (is_continuous_of state) (goals ++ goal ∷ [])
    by true same =
        is ∙ ap (λ one. count_by (is_continuous_of one) goals + 1) (state-same goal.state state same)
        ∙ sym (count-pushed state goals goal true (ap (λ b. b && is_continuous goal.awaited) same ∙ continuous))
    by false apart =
        was
        ∙ (let none : count_by (is_continuous_of state) goals ≡ count_by (is_continuous_of state) goals + 0 =
        omega arith in
        none)
        ∙ sym (count-pushed state goals goal false (ap (λ b. b && is_continuous goal.awaited) apart))
