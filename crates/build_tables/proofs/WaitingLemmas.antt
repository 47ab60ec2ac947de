-- The signals that wait for conditions, as the code keeps them.
use Rattle.std.proofs.Common.{◌≡◌, ◌∙◌, ◌==◌, ◌++◌, ℕ, Bool, true, false, cond, List, [], ◌∷◌, Option, None, Some, ap, arith, if◌then◌else◌, option_map, map, refl, sym, unwrap_or}
use Rattle.std.specs.Global.{Vec}
use Rattle.std.specs.Map.{lookup}
use Rattle.port_model.specs.declared.values.item.SignalId.{SignalId}
use Rattle.build_states.proofs.AnswerLemmas.{append-nil, mapped}
use Rattle.sdl_system.specs.declared.id.ConditionId.{ConditionId}
use Rattle.build_tables.specs.Grouped.{group_found, group_of, group_value, same_condition}

abbrev pub group_kept : Option (Vec SignalId) → List SignalId
group_kept kept = group_found (option_map (λ signals. signals.items) kept)

kept-mapped : (condition : ConditionId) (entries : List (ConditionId × Vec SignalId)) →
    lookup (same_condition condition) (map group_value entries)
    ≡ option_map (λ signals. signals.items) (lookup (same_condition condition) entries)
kept-mapped condition [] = refl
kept-mapped condition (entry ∷ entries) =
    mapped (λ signals. signals.items) (same_condition condition entry.0) entry.1
    (lookup (same_condition condition) entries) (lookup (same_condition condition) (map group_value entries))
    (kept-mapped condition entries)

-- the signals that wait for a condition, by what the code finds
pub groups-kept : (entries : List (ConditionId × Vec SignalId)) (condition : ConditionId) →
    group_kept (lookup (same_condition condition) entries) ≡ group_of (map group_value entries) condition
groups-kept entries condition = ap group_found (sym (kept-mapped condition entries))

pub unwrapped : (kept : Option (Vec SignalId)) (none : Vec SignalId) → none.items ≡ [] →
    (unwrap_or kept none).items ≡ group_kept kept
unwrapped None none is = is
unwrapped (Some signals) none is = refl

equal-turned : (a b : ℕ) (t : Bool) → (a == b) ≡ t → (b == a) ≡ t
equal-turned a b true is = grind arith
equal-turned a b false is = grind arith

-- one more signal that waits for a condition
pub group-added : (one other : ConditionId) (pushed : Vec SignalId) (signal : SignalId) (before : Option (Vec SignalId))
    (old : ConditionId → List SignalId) → group_kept before ≡ old other → pushed.items ≡ old one ++ signal ∷ [] →
    group_kept (cond (same_condition one other) (Some pushed) (cond (same_condition one other) None before))
    ≡ old other ++ (if other.0 == one.0 then signal ∷ [] else [])
group-added one other pushed signal before old is new = by (same_condition one other) refl
  where
    by : (b : Bool) → same_condition one other ≡ b → group_kept (cond b (Some pushed) (cond b None before))
        ≡ old other ++ (if other.0 == one.0 then signal ∷ [] else [])
    by true same =
        let here : one ≡ other = equal-ids one other same in
        new ∙ ap (λ c. old c ++ signal ∷ []) here
        ∙ ap (λ b. old other ++ (if b then signal ∷ [] else [])) (sym (equal-turned one.0 other.0 true same))
      where
        equal-ids : (a b : ConditionId) → (a.0 == b.0) ≡ true → a ≡ b
        equal-ids a b are =
            let numbers : a.0 ≡ b.0 = grind arith in
            ap (λ n. record { 0 = n }) numbers
    by false apart =
        is ∙ sym (append-nil (old other))
        ∙ ap (λ b. old other ++ (if b then signal ∷ [] else [])) (sym (equal-turned one.0 other.0 false apart))
