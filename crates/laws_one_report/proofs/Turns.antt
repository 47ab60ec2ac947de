-- Whose turn it is can go one way only.
use Rattle.std.proofs.Common.{◌≡◌, ◌+◌, ◌<◌, ap, arith, refl, subst, sym, ℕ, zero, suc, List, Option, Some}
use Rattle.std.proofs.lemmas.Option.{none-some}
use Rattle.serial_order.specs.Execution.{IsTurn, RestBetween, Rests, Steps, begins_anew, goes_on}
use Rattle.serial_order.specs.RunState.{RunState, instance_at}
use Rattle.run_record.specs.declared.evaluation.identity.Identity.{Identity}
use Rattle.sdl_interp.specs.Instance.{InstanceValue}
use Rattle.run_semantics.specs.Effect.{Deed, events_of}
use Rattle.sdl_system.specs.Behaviour.{Behaviour}
use Rattle.laws_one_report.proofs.Bare.{as_many, partner}
use Rattle.laws_one_report.proofs.Resting.{never_rests, rests_same}
use Rattle.laws_one_report.specs.Same.{bare_whole}
use Rattle.laws_one_step.specs.Unique.{LackNothing}

module _ (ps : List Behaviour) where
  -- the instance of this number doesn't rest
  abbrev pub IsAwake : RunState → ℕ → Type 0
  IsAwake g n = (0 < n) × ((i : InstanceValue) → instance_at g.instances n ≡ Some i → Rests ps i → ⊥)
      × ((i : InstanceValue) × (instance_at g.instances n ≡ Some i))

  pub awake_one : (g : RunState) (who : Identity) (deeds : List Deed) (h : RunState) (step : Steps ps g who deeds h)
      → LackNothing (events_of deeds) → IsAwake g who.pid
  awake_one g who deeds h step lack = (
    above who.pid step.is_there,
    λ i there rests.
        let is : i ≡ step.old = same_one (instance_at g.instances who.pid) i step.old there step.is_there in
        never_rests ps g who deeds h step lack (subst (λ j. Rests ps j) is rests),
    (step.old, step.is_there),
  ) where
    above : (n : ℕ) → instance_at g.instances n ≡ Some step.old → 0 < n
    above zero there = absurd (none-some step.old there)
    above (suc n) there = omega arith

    same_one : (o : Option InstanceValue) (i j : InstanceValue) → o ≡ Some i → o ≡ Some j → i ≡ j
    same_one o i j first second = cc

  -- it doesn't in a state that is the same
  awake_same : (g h : RunState) (n : ℕ) → bare_whole g ≡ bare_whole h → IsAwake g n → IsAwake h n
  awake_same g h n same awake = (
    awake.0,
    λ j there rests.
        let other = partner h g n j (sym same) there in
        awake.1 other.0 other.1 (rests_same ps j other.0 other.2 rests),
    (let other = partner g h n awake.2.0 same awake.2.1 in (other.0, other.1)),
  )

  -- so not all between two others rest
  not_between : (g : RunState) (after n before : ℕ) → IsAwake g n → RestBetween ps g.instances after before → after < n
      → n < before → ⊥
  not_between g after n before awake rest above below =
      awake.1 awake.2.0 awake.2.1 (rest n awake.2.0 above below awake.2.1)

  module _ (g : RunState) where
    -- of two that are awake the later one has no turn
    not_later : (n m bound end : ℕ) → IsAwake g n → IsAwake g m → IsTurn ps g n bound → IsTurn ps g m end → n < m → ⊥
    not_later n m _ _ first second (goes_on above within rest) (goes_on above' within' rest') less =
        not_between g g.turn n m first rest' above less
    not_later n m _ _ first second (goes_on above within rest) (begins_anew rest' again) less =
        not_between g 0 n m first again first.0 less
    not_later n m _ _ first second (begins_anew rest again) (goes_on above' within' rest') less =
        not_between g g.turn m (g.bound + 1) second rest above' (omega (arith, within'))
    not_later n m _ _ first second (begins_anew rest again) (begins_anew rest' again') less =
        not_between g 0 n m first again' first.0 less

    -- one sweep
    one_bound : (n bound end : ℕ) → IsAwake g n → IsTurn ps g n bound → IsTurn ps g n end → bound ≡ end
    one_bound n _ _ awake (goes_on above within rest) (goes_on above' within' rest') = refl
    one_bound n _ _ awake (goes_on above within rest) (begins_anew rest' again) =
        absurd (not_between g g.turn n (g.bound + 1) awake rest' above (omega (arith, within)))
    one_bound n _ _ awake (begins_anew rest again) (goes_on above' within' rest') =
        absurd (not_between g g.turn n (g.bound + 1) awake rest above' (omega (arith, within')))
    one_bound n _ _ awake (begins_anew rest again) (begins_anew rest' again') = refl

    pub one_turn : (n m bound end : ℕ) → IsAwake g n → IsAwake g m → IsTurn ps g n bound → IsTurn ps g m end
        → (n ≡ m) × (bound ≡ end)
    one_turn n m bound end first second turn also =
        let up : n < m → ⊥ = λ less. not_later n m bound end first second turn also less in
        let down : m < n → ⊥ = λ less. not_later m n end bound second first also turn less in
        let same : n ≡ m = level n m up down in
        (same, one_bound n bound end first turn (subst (λ k. IsTurn ps g k end) (sym same) also)) where
          level : (a b : ℕ) → (a < b → ⊥) → (b < a → ⊥) → a ≡ b
          level a b up down = omega arith

  -- ---- the turn in a state that is the same

  rest_same : (g h : RunState) (after before : ℕ) → bare_whole g ≡ bare_whole h
      → RestBetween ps g.instances after before → RestBetween ps h.instances after before
  rest_same g h after before same rest =
      λ n j above below there.
      let other = partner h g n j (sym same) there in
      rests_same ps other.0 j (sym other.2) (rest n other.0 above below other.1)

  pub turn_same : (g h : RunState) (n bound : ℕ) → bare_whole g ≡ bare_whole h → IsTurn ps g n bound
      → IsTurn ps h n bound
  turn_same g h n _ same (goes_on above within rest) =
      let turns : g.turn ≡ h.turn = ap (λ (x : RunState). x.turn) same in
      let bounds : g.bound ≡ h.bound = ap (λ (x : RunState). x.bound) same in
      subst (λ k. IsTurn ps h n k) (sym bounds)
      (goes_on (omega (arith, above, turns)) (omega (arith, within, bounds))
      (subst (λ k. RestBetween ps h.instances k n) turns (rest_same g h g.turn n same rest)))
  turn_same g h n _ same (begins_anew rest again) =
      let turns : g.turn ≡ h.turn = ap (λ (x : RunState). x.turn) same in
      let bounds : g.bound ≡ h.bound = ap (λ (x : RunState). x.bound) same in
      subst (λ k. IsTurn ps h n k) (sym (as_many g h same))
      (begins_anew
      (subst (λ k. RestBetween ps h.instances k (h.bound + 1)) turns
      (subst (λ k. RestBetween ps h.instances g.turn (k + 1)) bounds (rest_same g h g.turn (g.bound + 1) same rest)))
      (rest_same g h 0 n same again))

  pub turns_same : (g h : RunState) (n m bound end : ℕ) → bare_whole g ≡ bare_whole h → IsAwake g n → IsAwake h m
      → IsTurn ps g n bound → IsTurn ps h m end → (n ≡ m) × (bound ≡ end)
  turns_same g h n m bound end same first second turn also =
      one_turn g n m bound end first (awake_same h g m (sym same) second) turn (turn_same h g m end (sym same) also)
