-- The same set of names by another description.
use Rattle.std.proofs.Common.{◌≡◌, ◌++◌, ℕ, Bool, List, OnOk, Result, ◌∙◌}
use Rattle.std.proofs.lemmas.Result.{on_ok_weaker}
use Rattle.parse_expressions.specs.declared.word.PlacedWord.{PlacedWord}
use Rattle.sdl_warnings.specs.Heads.{HeadValue, nowhere}
use Rattle.sdl_warnings.specs.Missing.{missing}
use Rattle.sdl_warnings.specs.Signals.{unsettled}
use Rattle.sdl_warnings.specs.Times.{constant_from}
use Rattle.sdl_warnings.specs.declared.suspicion.Behaviour.{Behaviour}
use Rattle.sdl_warnings.specs.declared.suspicion.Oddity.{Oddity}
use Rattle.sdl_warnings.specs.declared.suspicion.Suspicion.{Suspicion}
use Rattle.sdl_warnings.specs.declared.suspicion.Warning.{Warning}
use Rattle.sdl_warnings.specs.declared.timers.Time.TheVariants.{Other}

module _ {T E : Type 0} (r : Result T E) (old new : List Warning) (there is_there : List ℕ → Bool) where
  pub all_missing : (suspicion : Suspicion) (heads heads' : List HeadValue)
      → OnOk r (new ≡ old ++ missing suspicion there heads) → ((text : List ℕ) → there text ≡ is_there text)
      → heads ≡ heads' → OnOk r (new ≡ old ++ missing suspicion is_there heads')
  all_missing suspicion heads heads' grows same is =
      on_ok_weaker r (λ g. g ∙ (λ i. old ++ missing suspicion (λ text. same text i) (is i))) grows

  pub all_constant : (words : List PlacedWord) → OnOk r (new ≡ old ++ constant_from there nowhere Other words)
      → ((text : List ℕ) → there text ≡ is_there text) → OnOk r (new ≡ old ++ constant_from is_there nowhere Other words)
  all_constant words grows same =
      on_ok_weaker r (λ g. g ∙ (λ i. old ++ constant_from (λ text. same text i) nowhere Other words)) grows

module _ {T E : Type 0} (r : Result T E) (old new : List Oddity) (there is_there settled is_settled : List ℕ → Bool) where
  pub all_unsettled : (behaviour : Behaviour) (heads heads' : List HeadValue)
      → OnOk r (new ≡ old ++ unsettled behaviour there settled heads) → ((text : List ℕ) → there text ≡ is_there text)
      → ((text : List ℕ) → settled text ≡ is_settled text) → heads ≡ heads'
      → OnOk r (new ≡ old ++ unsettled behaviour is_there is_settled heads')
  all_unsettled behaviour heads heads' grows same alike is =
      on_ok_weaker r
      (λ g. g ∙ (λ i. old ++ unsettled behaviour (λ text. same text i) (λ text. alike text i) (is i))) grows
