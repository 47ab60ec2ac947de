-- A failure that is no lack of memory is the one that is meant.
use Rattle.std.proofs.Common.{◌≡◌, ◌≢◌, ◌⊎◌, ◌∙◌, ℕ, Bool, List, Option, Result, Ok, Err, ap, inl, inr, sym}
use Rattle.port_model.specs.declared.values.timer_key.TimerKey.{TimerKey}
use Rattle.port_model.specs.declared.values.value.Value.{Value}
use Rattle.run_record.specs.Environment.{Environment, sorts_of}
use Rattle.run_record.specs.Memory.{FailsAs}
use Rattle.run_record.specs.Value.{key_at, values_at}
use Rattle.run_record.specs.declared.failure.Failure.{Failure}
use Rattle.run_record.specs.declared.failure.Failure.TheVariants.{Memory}
use Rattle.run_semantics.specs.Fails.{both, due_by, named_by, sent_by, set_by}
use Rattle.sdl_system.specs.Body.{Sending, Setting, Whither}
use Rattle.sdl_system.specs.System.{SystemValue}
use Rattle.sdl_system.specs.declared.route.Dest.{Dest}

pub meant-or : {T : Type 0} (meant : Result T Failure) (found why : Failure)
    → (found ≡ Memory) ⊎ (meant ≡ Err found) → found ≡ why → why ≢ Memory → meant ≡ Err why
meant-or meant found why fails same other =
    elim fails [ inl memory ↦ absurd (other (sym same ∙ memory)) | inr is ↦ is ∙ ap (λ (w : Failure). Err w) same ]

pub meant-as : {T : Type 0} (wants : Bool) (meant : Result T Failure) (found why : Failure)
    → FailsAs wants meant found → found ≡ why → why ≢ Memory → meant ≡ Err why
meant-as wants meant found why fails same other =
    elim fails [ inl is ↦ is ∙ ap (λ (w : Failure). Err w) same | inr memory ↦ absurd (other (sym same ∙ memory.1)) ]

module _ (system : SystemValue) (here : Environment) (to : Option Whither) (one : Sending) (why : Failure) where
  -- whom an output names fails
  pub sent-unnamed : named_by here to ≡ Err why → sent_by system here to one ≡ Err why
  sent-unnamed is = ap (λ (r : Result Dest Failure). both r (values_at here (sorts_of system one.signal) one.values)) is

  -- or else the values
  pub sent-unvalued : (named : Dest) → named_by here to ≡ Ok named
      → values_at here (sorts_of system one.signal) one.values ≡ Err why → sent_by system here to one ≡ Err why
  sent-unvalued named is fails =
      ap (λ (r : Result Dest Failure). both r (values_at here (sorts_of system one.signal) one.values)) is
      ∙ ap (λ (r : Result (List Value) Failure). both (Ok named) r) fails

module _ (here : Environment) (one : Setting) (why : Failure) where
  -- the time of a set fails
  pub set-untimed : due_by here one.due ≡ Err why → set_by here one ≡ Err why
  set-untimed is = ap (λ (r : Result ℕ Failure). both r (key_at here one.timer.timer one.timer.values)) is

  -- or else its timer
  pub set-unkeyed : (due : ℕ) → due_by here one.due ≡ Ok due → key_at here one.timer.timer one.timer.values ≡ Err why
      → set_by here one ≡ Err why
  set-unkeyed due is fails =
      ap (λ (r : Result ℕ Failure). both r (key_at here one.timer.timer one.timer.values)) is
      ∙ ap (λ (r : Result TimerKey Failure). both (Ok due) r) fails
