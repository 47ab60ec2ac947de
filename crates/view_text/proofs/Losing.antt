-- What nobody took, one signal after the other.
use Rattle.std.proofs.Common.{◌≡◌, ◌+◌, ◌-◌, ◌<◌, ◌≤◌, ℕ, false, List, [], ◌∷◌, ◌++◌, None, Some, if◌then◌else◌, ap, append_assoc, append-nil, arith, cond, drop, get_or, length, map, sym, ◌∙◌, subst, take}
use Rattle.std.specs.Option.{option_map_or}
use Rattle.std.proofs.lemmas.List.{drop_all, drop_more, get_or-map, length-map, take_more}
use Rattle.std.proofs.lemmas.List.Sums.{sum_by_push}
use Rattle.view_text.specs.Lost.{is_taken, same_arrival, taken_as, takes, untaken}
use Rattle.port_model.specs.declared.values.item.SignalId.{SignalId}
use Rattle.view_text.specs.Sending.{SendingValue, heard_by, sending_value}
use Rattle.view_text.specs.Walk.{StepValue}
use Rattle.view_text.specs.declared.arrival.Arrival.{Arrival}
use Rattle.view_text.specs.declared.sending.Sending.{Sending}

pub minus-none : (n : ℕ) → n ≡ n - 0
minus-none n = omega arith

-- ---- takes along a walk

takes-last : (arrival : Arrival) (passed : List StepValue) (step : StepValue)
    → takes (passed ++ step ∷ []) arrival ≡ takes passed arrival + (if taken_as arrival step then 1 else 0)
takes-last arrival passed step = sum_by_push (λ (one : StepValue). cond (taken_as arrival one) 1 0) passed step

-- a step more, which takes nothing of the environment
pub takes-unheard : (arrival : Arrival) (passed : List StepValue) (step : StepValue) → heard_by step.event ≡ None
    → takes (passed ++ step ∷ []) arrival ≡ takes passed arrival
takes-unheard arrival passed step none =
    takes-last arrival passed step
    ∙ ap (λ o. takes passed arrival
    + (if option_map_or (λ (name : SignalId). same_arrival (record { number = step.trace.pid; signal = name }) arrival)
    o false then 1 else 0)) none
    ∙ plus-none (takes passed arrival)
  where
    plus-none : (n : ℕ) → n + 0 ≡ n
    plus-none n = omega arith

-- a step more, which takes this
pub takes-heard : (arrival : Arrival) (passed : List StepValue) (step : StepValue) (name : SignalId)
    → heard_by step.event ≡ Some name
    → takes (passed ++ step ∷ []) arrival ≡ takes passed arrival
    + (if same_arrival (record { number = step.trace.pid; signal = name }) arrival then 1 else 0)
takes-heard arrival passed step name some =
    takes-last arrival passed step
    ∙ ap (λ o. takes passed arrival
    + (if option_map_or (λ (name : SignalId). same_arrival (record { number = step.trace.pid; signal = name }) arrival)
    o false then 1 else 0)) some

-- ---- what nobody took, one signal after the other

module _ (steps : List StepValue) (all : List Sending) where
  abbrev values : List SendingValue
  values = map sending_value all

  -- this was lost so far, and the rest is lost of what is left
  pub lost-more : (index : ℕ) (one : Sending) (lost lost' : List Sending) → index < length all
      → one ≡ get_or all index one
      → map sending_value lost' ≡ map sending_value lost
      ++ (if is_taken steps (take index (map sending_value all)) (sending_value one) then []
      else sending_value one ∷ [])
      → map sending_value lost
      ++ untaken steps (take index (map sending_value all)) (drop index (map sending_value all))
      ≡ untaken steps [] (map sending_value all)
      → map sending_value lost'
      ++ untaken steps (take (index + 1) (map sending_value all)) (drop (index + 1) (map sending_value all))
      ≡ untaken steps [] (map sending_value all)
  lost-more index one lost lost' within at grows whole =
      let shorter : index < length values = subst (λ n. index < n) (sym (length-map all sending_value)) within in
      let it : get_or values index (sending_value one) ≡ sending_value one = item in
      let first : List SendingValue =
      if is_taken steps (take index values) (sending_value one) then [] else sending_value one ∷ [] in
      ap (λ l. l ++ untaken steps (take (index + 1) values) (drop (index + 1) values)) grows
      ∙ append_assoc (map sending_value lost) first (untaken steps (take (index + 1) values) (drop (index + 1) values))
      ∙ ap (λ l. map sending_value lost ++ (first ++ untaken steps l (drop (index + 1) values)))
      (take_more values index (sending_value one) shorter ∙ ap (λ x. take index values ++ x ∷ []) it)
      ∙ ap (λ l. map sending_value lost ++ untaken steps (take index values) l)
      (ap (λ x. x ∷ drop (index + 1) values) (sym it) ∙ sym (drop_more values index (sending_value one) shorter))
      ∙ whole
    where
      item : get_or values index (sending_value one) ≡ sending_value one
      item = get_or-map sending_value all index one (sending_value one) within ∙ ap sending_value (sym at)

  pub earlier-more : (index : ℕ) (one : Sending) → index < length all → one ≡ get_or all index one
      → take (index + 1) (map sending_value all) ≡ take index (map sending_value all) ++ sending_value one ∷ []
  earlier-more index one within at =
      take_more values index (sending_value one) (subst (λ n. index < n) (sym (length-map all sending_value)) within)
      ∙ ap (λ x. take index values ++ x ∷ [])
      (get_or-map sending_value all index one (sending_value one) within ∙ ap sending_value (sym at))

  pub lost-all : (index : ℕ) (lost : List Sending) → length all ≤ index
      → map sending_value lost
      ++ untaken steps (take index (map sending_value all)) (drop index (map sending_value all))
      ≡ untaken steps [] (map sending_value all)
      → map sending_value lost ≡ untaken steps [] (map sending_value all)
  lost-all index lost end whole =
      sym (append-nil (map sending_value lost))
      ∙ ap (λ l. map sending_value lost ++ untaken steps (take index values) l)
      (sym (drop_all index values (subst (λ n. n ≤ index) (sym (length-map all sending_value)) end)))
      ∙ whole
