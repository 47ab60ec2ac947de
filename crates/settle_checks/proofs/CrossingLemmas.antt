-- Signals on their way, with one flow more.
use Rattle.std.proofs.Common.{◌≡◌, ◌∙◌, ◌<◌, ◌≤◌, ◌+◌, ◌++◌, ◌∷◌, [], ap, append-nil, append_assoc, get_or, length, map, sym, take, ℕ, List}
use Rattle.std.specs.List.{flat_map}
use Rattle.std.proofs.lemmas.List.{map_more, take_all, take_more}
use Rattle.std.proofs.lemmas.List.Concat.{flat_map-append}
use Rattle.port_model.specs.declared.values.pid.Pid.{Pid}
use Rattle.settle_checks.specs.Crossings.{crossing_in, crossing_out}
use Rattle.settle_checks.specs.declared.summing.crossings.Crossing.{Crossing}
use Rattle.settle_checks.specs.declared.summing.flows.Flow.{Flow}

module _ (from : Pid) (flows : List Flow) (i : ℕ) where
  abbrev sent : List Flow → List Crossing
  sent some = flat_map (crossing_out from) some

  out_more : (d : Flow) → i < length flows
      → sent (take (i + 1) flows) ≡ sent (take i flows) ++ crossing_out from (get_or flows i d)
  out_more d within =
      ap sent (take_more flows i d within)
      ∙ flat_map-append (crossing_out from) (take i flows) (get_or flows i d ∷ [])
      ∙ ap (λ (l : List Crossing). sent (take i flows) ++ l) (append-nil (crossing_out from (get_or flows i d)))

  module _ (d : Flow) (within : i < length flows) (base all : List Crossing)
      (are : all ≡ base ++ flat_map (crossing_out from) (take i flows)) where
    pub out_some : (one : Crossing) (new : List Crossing) → one ∷ [] ≡ crossing_out from (get_or flows i d)
        → new ≡ all ++ one ∷ [] → new ≡ base ++ flat_map (crossing_out from) (take (i + 1) flows)
    out_some one new is pushed =
        pushed ∙ ap (λ (l : List Crossing). all ++ l) is
        ∙ ap (λ (l : List Crossing). l ++ crossing_out from (get_or flows i d)) are
        ∙ append_assoc base (sent (take i flows)) (crossing_out from (get_or flows i d))
        ∙ ap (λ (l : List Crossing). base ++ l) (sym (out_more d within))

    pub out_none : [] ≡ crossing_out from (get_or flows i d)
        → all ≡ base ++ flat_map (crossing_out from) (take (i + 1) flows)
    out_none is =
        are
        ∙ ap (λ (l : List Crossing). base ++ l)
        (sym (append-nil (sent (take i flows)))
        ∙ ap (λ (l : List Crossing). sent (take i flows) ++ l) is
        ∙ sym (out_more d within))

  pub out_all : (base all : List Crossing) → length flows ≤ i
      → all ≡ base ++ flat_map (crossing_out from) (take i flows)
      → all ≡ base ++ flat_map (crossing_out from) flows
  out_all base all past are =
      are ∙ ap (λ (l : List Flow). base ++ sent l) (take_all i flows past)

module _ (to : ℕ) (flows : List Flow) (i : ℕ) where
  pub in_more : (d : Flow) (base all new : List Crossing) → i < length flows
      → all ≡ base ++ map (crossing_in to) (take i flows) → new ≡ all ++ crossing_in to (get_or flows i d) ∷ []
      → new ≡ base ++ map (crossing_in to) (take (i + 1) flows)
  in_more d base all new within are pushed =
      pushed
      ∙ ap (λ (l : List Crossing). l ++ crossing_in to (get_or flows i d) ∷ []) are
      ∙ append_assoc base (map (crossing_in to) (take i flows)) (crossing_in to (get_or flows i d) ∷ [])
      ∙ ap (λ (l : List Crossing). base ++ l) (sym (map_more (crossing_in to) flows i d within))

  pub in_all : (base all : List Crossing) → length flows ≤ i → all ≡ base ++ map (crossing_in to) (take i flows)
      → all ≡ base ++ map (crossing_in to) flows
  in_all base all past are =
      are ∙ ap (λ (l : List Flow). base ++ map (crossing_in to) l) (take_all i flows past)

-- nothing is sent yet
pub none_added : (base : List Crossing) → base ≡ base ++ []
none_added base = sym (append-nil base)
