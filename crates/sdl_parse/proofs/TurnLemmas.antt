-- How readings and looks go on by a word or a turn: a clause, a name among others, a transition and a decision.
use Rattle.std.proofs.Common.{◌≡◌, ℕ, Bool, suc, ◌+◌, ◌-◌, ◌<◌, ◌≤◌, false, ◌||◌, List, [], ◌∷◌, length, map, None, Ok, Err, refl, ap, arith}
use Rattle.std.proofs.lemmas.Grind.{common_steps}
use Rattle.std.specs.List.{list_any}
use Rattle.parse_expressions.proofs.Grammar.{Words, Deep, Action, Statement, Parser, front, rest, mark_at}
use Rattle.parse_expressions.proofs.TurnLemmas.{map_push}
use Rattle.sdl_parse.specs.Clauses.{look_at, found_by, comma_ahead}
use Rattle.sdl_parse.specs.Transitions.{decision, decision_of, steps_from, trans}

-- ---- a look over a clause

pub ahead_turn : (n : ℕ) (i : Words) → 0 < length i → comma_ahead n i ≡ found_by (look_at n (mark_at i)) (λ now. comma_ahead now (rest i))
unfolding comma_ahead mark_at front rest
ahead_turn n [] some = absurd (omega arith)
ahead_turn n (w ∷ i) some = refl

pub ahead_none : (n : ℕ) (i : Words) → length i ≡ 0 → comma_ahead n i ≡ false
unfolding comma_ahead
ahead_none n [] e = refl
ahead_none n (w ∷ i) e = absurd (omega (arith, e))

pub rest_length : (i : Words) → length (rest i) ≡ length i - 1
unfolding rest
rest_length [] = refl
rest_length (w ∷ i) = omega arith

-- ---- a name among others

pub any_map : {X Y : Type 0} (p : X → Bool) (h : Y → X) (ys : List Y) → list_any p (map h ys) ≡ list_any (λ y. p (h y)) ys
any_map p h [] = refl
any_map p h (y ∷ ys) = ap (λ b. p (h y) || b) (any_map p h ys)

-- ---- transitions and decisions

pub decision_none : (d : ℕ) (i : Words) → d ≡ 0 → decision d i ≡ Err (Deep i)
unfolding decision
decision_none d i e = ap (λ n. decision n i) e

pub decision_inside : (d : ℕ) (i : Words) → 0 < d → decision d i ≡ decision_of (d - 1) (trans (d - 1)) i
unfolding decision
decision_inside d i some = let e : d ≡ suc (d - 1) = omega arith in ap (λ n. decision n i) e

pub steps_on : (act : Parser Action) (found : List Statement) (i : Words) (n at : ℕ) → at < n → steps_from act (n - at) found i ≡ steps_from act (suc (n - (at + 1))) found i
steps_on act found i n at below = let turn : n - at ≡ suc (n - (at + 1)) = omega arith in ap (λ k. steps_from act k found i) turn

pub steps_off : (act : Parser Action) (found : List Statement) (i : Words) (n at : ℕ) → n ≤ at → steps_from act (n - at) found i ≡ Ok ((found, None), i)
unfolding steps_from
steps_off act found i n at done = let none : n - at ≡ 0 = omega arith in ap (λ k. steps_from act k found i) none

pub ruleset turning = (common_steps, steps_on, steps_off, map_push)
