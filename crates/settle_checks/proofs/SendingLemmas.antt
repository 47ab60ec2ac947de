-- What a record sends, with one event more.
use Rattle.std.proofs.Common.{◌≡◌, ◌∙◌, ap, append-nil, append_assoc, refl, subst, sym, ⊎_elim, ℕ, List, [], ◌∷◌, ◌++◌, All, None, Option, Some}
use Rattle.std.specs.Prelude.{Contains, IfSome}
use Rattle.std.proofs.lemmas.List.Elements.{All-nil, All-push, All-weaker, Contains-append_left, Contains-push}
use Rattle.run_record.specs.Event as event
use Rattle.run_record.specs.Event.{Event}
use Rattle.run_semantics.specs.World.{time_after_one}
use Rattle.sdl_system.specs.declared.id.ProcessId.{ProcessId}
use Rattle.settle_checks.specs.Events.{routed_in}
use Rattle.settle_checks.specs.declared.targets.Routed.{Routed}
use Rattle.settle_meaning.specs.Times.{time_by}
use Rattle.settle_checks.proofs.FlowLemmas.{flows_same}
use Rattle.settle_checks.specs.Flows.{AreFlows, counted, passes_out, passes_to, sent_passes}
use Rattle.settle_checks.specs.Summary.{HasWith, IsAmong, IsOutputIn, IsSending}
use Rattle.settle_checks.specs.declared.summing.flows.Flow.{Flow}
use Rattle.settle_checks.specs.declared.summing.flows.Pass.{Pass}
use Rattle.settle_checks.specs.declared.summing.sending.Sending.{Sending}

-- ---- what passes

pub sent_more : (earlier : ℕ) (done : List Event) (happened : Event)
    → sent_passes earlier (done ++ happened ∷ [])
    ≡ sent_passes earlier done ++ passes_out (time_by earlier done) happened
sent_more earlier [] happened = append-nil (passes_out earlier happened)
sent_more earlier (first ∷ rest) happened =
    ap (λ (l : List Pass). passes_out earlier first ++ l) (sent_more (time_after_one earlier first) rest happened)
    ∙ sym (append_assoc (passes_out earlier first) (sent_passes (time_after_one earlier first) rest)
    (passes_out (time_by (time_after_one earlier first) rest) happened))

-- what is no output passes nothing
no_pass : (process : ProcessId) (at : ℕ) (happened : Event) → routed_in process happened ≡ None
    → passes_out at happened ≡ []
no_pass process at (event.Output signal to values target) none = let wrong : ⊥ = cc in absurd wrong
no_pass process at happened none = refl

-- an output passes what goes to its target
output_passes : (process : ProcessId) (at : ℕ) (happened : Event) (routed : Routed)
    → routed_in process happened ≡ Some routed → passes_out at happened ≡ passes_to at routed.signal routed.target
output_passes process at (event.Output signal to values target) routed some =
    ap (λ (r : Routed). passes_to at r.signal r.target) (the_same some) where
      the_same : {a b : Routed} → Some a ≡ Some b → a ≡ b
      the_same e = cc
output_passes process at happened routed some = let wrong : ⊥ = cc in absurd wrong

-- ---- the outputs

some_weaker : {X : Type 0} (P Q : X → Type 0) → ((x : X) → P x → Q x) → (o : Option X) → IfSome o P → IfSome o Q
some_weaker P Q more None holds = tt
some_weaker P Q more (Some x) holds = more x holds

still_among : (routed : Routed) (old new : List Routed) → HasWith routed old new → (r : Routed) → Contains old r
    → Contains new r
still_among routed old new has r there =
    ⊎_elim
    (λ (pushed : new ≡ old ++ routed ∷ []).
    subst (λ (l : List Routed). Contains l r) (sym pushed) (Contains-append_left old (routed ∷ []) r there))
    (λ (same : (new ≡ old) × Contains old routed). subst (λ (l : List Routed). Contains l r) (sym same.0) there)
    has

now_among : (routed : Routed) (old new : List Routed) → HasWith routed old new → Contains new routed
now_among routed old new has =
    ⊎_elim
    (λ (pushed : new ≡ old ++ routed ∷ []).
    subst (λ (l : List Routed). Contains l routed) (sym pushed) (Contains-push old routed))
    (λ (same : (new ≡ old) × Contains old routed).
    subst (λ (l : List Routed). Contains l routed) (sym same.0) same.1)
    has

output_still : (process : ProcessId) (done : List Event) (happened : Event) (r : Routed) → IsOutputIn process done r
    → IsOutputIn process (done ++ happened ∷ []) r
output_still process done happened r is = record {
  happened = is.happened;
  among = Contains-append_left done (happened ∷ []) is.happened is.among;
  is = is.is;
}

pub sending_none : (process : ProcessId) (sending : Sending) → sending.routed.items ≡ [] → sending.flows ≡ []
    → IsSending process [] sending
sending_none process sending routed flows = record {
  each = All-nil (IsAmong process sending.routed.items);
  no_other = subst (λ (l : List Routed). All (IsOutputIn process []) l) (sym routed)
      (All-nil (IsOutputIn process []));
  flows = λ P. ap (counted P) flows;
}

module _ (process : ProcessId) (done : List Event) (happened : Event) where
  outputs_still : (routed : List Routed) → All (IsOutputIn process done) routed
      → All (IsOutputIn process (done ++ happened ∷ [])) routed
  outputs_still routed are =
      All-weaker (IsOutputIn process done) (IsOutputIn process (done ++ happened ∷ []))
      (output_still process done happened) routed are

  outputs_with : (one : Routed) (old new : List Routed) → HasWith one old new
      → routed_in process happened ≡ Some one → All (IsOutputIn process done) old
      → All (IsOutputIn process (done ++ happened ∷ [])) new
  outputs_with one old new has is are =
      ⊎_elim
      (λ (pushed : new ≡ old ++ one ∷ []).
      subst (λ (l : List Routed). All (IsOutputIn process (done ++ happened ∷ [])) l) (sym pushed)
      (All-push (IsOutputIn process (done ++ happened ∷ [])) old one (outputs_still old are)
      (record { happened = happened; among = Contains-push done happened; is = is })))
      (λ (same : (new ≡ old) × Contains old one).
      subst (λ (l : List Routed). All (IsOutputIn process (done ++ happened ∷ [])) l) (sym same.0)
      (outputs_still old are))
      has

  -- ---- by what the event sends

  pub sending_nothing : (sending : Sending) → routed_in process happened ≡ None → IsSending process done sending
      → IsSending process (done ++ happened ∷ []) sending
  sending_nothing sending none is = record {
    each = All-push (IsAmong process sending.routed.items) done happened is.each
        (subst (λ (o : Option Routed). IfSome o (Contains sending.routed.items)) (sym none) tt);
    no_other = outputs_still sending.routed.items is.no_other;
    flows = subst (λ (l : List Pass). AreFlows l sending.flows) (sym (sent_more 0 done happened))
        (flows_same (sent_passes 0 done) (passes_out (time_by 0 done) happened) sending.flows
        (no_pass process (time_by 0 done) happened none) is.flows);
  }

  pub sending_more : (at : ℕ) (one : Routed) (old new : Sending) → at ≡ time_by 0 done
      → routed_in process happened ≡ Some one → HasWith one old.routed.items new.routed.items
      → AreFlows (sent_passes 0 done ++ passes_to at one.signal one.target) new.flows
      → IsSending process done old → IsSending process (done ++ happened ∷ []) new
  sending_more at one old new at_is some has flows is = record {
    each = All-push (IsAmong process new.routed.items) done happened
        (All-weaker (IsAmong process old.routed.items) (IsAmong process new.routed.items)
        (λ e among. some_weaker (Contains old.routed.items) (Contains new.routed.items)
        (still_among one old.routed.items new.routed.items has) (routed_in process e) among)
        done is.each)
        (subst (λ (o : Option Routed). IfSome o (Contains new.routed.items)) (sym some)
        (now_among one old.routed.items new.routed.items has));
    no_other = outputs_with one old.routed.items new.routed.items has some is.no_other;
    flows = subst (λ (l : List Pass). AreFlows l new.flows)
        (ap (λ (l : List Pass). sent_passes 0 done ++ l)
        (ap (λ t. passes_to t one.signal one.target) at_is
        ∙ sym (output_passes process (time_by 0 done) happened one some))
        ∙ sym (sent_more 0 done happened))
        flows;
  }

  -- the output goes to an instance
  pub sending_passed : (at : ℕ) (one : Routed) (pass : Pass) (old new : Sending) (flows : List Flow)
      → at ≡ time_by 0 done
      → routed_in process happened ≡ Some one → HasWith one old.routed.items new.routed.items → flows ≡ old.flows
      → pass ∷ [] ≡ passes_to at one.signal one.target
      → ((passes : List Pass) → AreFlows passes flows → AreFlows (passes ++ pass ∷ []) new.flows)
      → IsSending process done old → IsSending process (done ++ happened ∷ []) new
  sending_passed at one pass old new flows at_is some has same passes added is =
      sending_more at one old new at_is some has
      (subst (λ (l : List Pass). AreFlows (sent_passes 0 done ++ l) new.flows) passes
      (added (sent_passes 0 done)
      (subst (λ (f : List Flow). AreFlows (sent_passes 0 done) f) (sym same) is.flows)))
      is

  -- or to nobody
  pub sending_gone : (at : ℕ) (one : Routed) (old new : Sending) → at ≡ time_by 0 done
      → routed_in process happened ≡ Some one → HasWith one old.routed.items new.routed.items → new.flows ≡ old.flows
      → [] ≡ passes_to at one.signal one.target
      → IsSending process done old → IsSending process (done ++ happened ∷ []) new
  sending_gone at one old new at_is some has same none is =
      sending_more at one old new at_is some has
      (flows_same (sent_passes 0 done) (passes_to at one.signal one.target) new.flows (sym none)
      (subst (λ (f : List Flow). AreFlows (sent_passes 0 done) f) (sym same) is.flows))
      is
