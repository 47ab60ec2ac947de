-- What a record takes, with one event more.
use Rattle.std.proofs.Common.{◌≡◌, ◌∙◌, ◌||◌, ap, refl, subst, sym, ℕ, Bool, true, false, List, [], ◌∷◌, ◌++◌}
use Rattle.port_model.specs.declared.got.Got as got
use Rattle.run_record.specs.Event as event
use Rattle.run_record.specs.Event.{Event}
use Rattle.settle_checks.proofs.CreatingLemmas.{flat_more}
use Rattle.settle_checks.proofs.FateLemmas.{any_more}
use Rattle.settle_checks.proofs.FlowLemmas.{flows_same}
use Rattle.settle_checks.specs.Flows.{AreFlows, counted, passes_in, taken_passes}
use Rattle.settle_checks.specs.Summary.{IsTaking, TakesAs, takes_timer}
use Rattle.settle_checks.specs.declared.summing.flows.Pass.{Pass}
use Rattle.settle_checks.specs.declared.summing.taking.Taking.{Taking}
use Rattle.settle_checks.specs.declared.summing.taking.Took.{Took}
use Rattle.settle_checks.specs.declared.summing.taking.Took.TheVariants as took

pub taking_none : (taking : Taking) → taking.timer ≡ false → taking.flows ≡ [] → IsTaking [] taking
taking_none taking timer flows = record { timer = timer; flows = λ P. ap (counted P) flows }

module _ (done : List Event) (happened : Event) where
  flows_nothing : (taking : Taking) → passes_in happened ≡ [] → AreFlows (taken_passes done) taking.flows
      → AreFlows (taken_passes (done ++ happened ∷ [])) taking.flows
  flows_nothing taking none are =
      subst (λ (l : List Pass). AreFlows l taking.flows) (sym (flat_more passes_in done happened [] none))
      (flows_same (taken_passes done) [] taking.flows refl are)

  or_false : (b c : Bool) → c ≡ false → b ≡ (b || c)
  or_false true c is = refl
  or_false false c is = sym is

  or_true : (b c : Bool) → c ≡ true → true ≡ (b || c)
  or_true true c is = refl
  or_true false c is = sym is

  pub taking_nothing : (taking : Taking) → TakesAs happened took.Nothing → IsTaking done taking
      → IsTaking (done ++ happened ∷ []) taking
  taking_nothing taking takes is = record {
    timer = any_more takes_timer done happened taking.timer taking.timer
        (or_false taking.timer (takes_timer happened) takes.1) is.timer;
    flows = flows_nothing taking takes.0 is.flows;
  }

  pub taking_timer : (old new : Taking) → TakesAs happened took.Timer → new.timer ≡ true → new.flows ≡ old.flows
      → IsTaking done old → IsTaking (done ++ happened ∷ []) new
  taking_timer old new takes timer flows is = record {
    timer = any_more takes_timer done happened old.timer new.timer
        (timer ∙ or_true old.timer (takes_timer happened) takes.1) is.timer;
    flows = flows_nothing new takes.0 (subst (λ f. AreFlows (taken_passes done) f) (sym flows) is.flows);
  }

  pub taking_signal : (pass : Pass) (old new : Taking) → TakesAs happened (took.Signal pass)
      → new.timer ≡ old.timer → AreFlows (taken_passes done ++ pass ∷ []) new.flows → IsTaking done old
      → IsTaking (done ++ happened ∷ []) new
  taking_signal pass old new takes timer flows is = record {
    timer = any_more takes_timer done happened old.timer new.timer
        (timer ∙ or_false old.timer (takes_timer happened) takes.1) is.timer;
    flows = subst (λ (l : List Pass). AreFlows l new.flows)
        (sym (flat_more passes_in done happened (pass ∷ []) takes.0)) flows;
  }

-- how something is taken makes no difference
module _ (at : ℕ) (got : got.Got) where
  pub takes_prior : (taken : Took) → TakesAs (event.Consumed at got) taken → TakesAs (event.Prior at got) taken
  takes_prior took.Nothing is = is
  takes_prior took.Timer is = is
  takes_prior (took.Signal pass) is = is

  pub takes_discarded : (taken : Took) → TakesAs (event.Consumed at got) taken → TakesAs (event.Discarded at got) taken
  takes_discarded took.Nothing is = is
  takes_discarded took.Timer is = is
  takes_discarded (took.Signal pass) is = is
