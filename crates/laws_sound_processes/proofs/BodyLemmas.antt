-- An action whose values fit their places has as many values as it takes.
use Rattle.std.proofs.Common.{◌≡◌, ◌∙◌, All, IfSome, List, [], ◌∷◌, Option, None, Some, ap, length, refl, suc, sym}
use Rattle.std.proofs.lemmas.List.Elements.{All-cons, All-nil, All-weaker}
use Rattle.std.proofs.lemmas.Option.{slice_get_within}
use Rattle.laws_sound_processes.specs.BodyLaws.{TypedActionsAreSound}
use Rattle.laws_sound_processes.specs.Typed.{IsTypedAction, IsTypedAssigning, IsTypedSending, IsTypedSetting, IsTypedTiming, IsTypedWhen, IsTypedWhither}
use Rattle.laws_sound_runs.proofs.SoundLemmas.{fitting-many, fitting-sound, kinded-sound}
use Rattle.laws_sound_runs.specs.Kinds.{FitPlaces}
use Rattle.laws_sound_runs.specs.Scopes.{parameter_sorts}
use Rattle.sdl_system.specs.Body as body
use Rattle.sdl_system.specs.Body.{Action, Assigning, Sending, Setting, Timing, When, Whither}
use Rattle.sdl_system.specs.Soundness.{AreSoundTerms, IsSoundAction, IsSoundAssigning, IsSoundSending, IsSoundSetting, IsSoundTerm, IsSoundTiming, IsSoundWhen, IsSoundWhither, count_terms}
use Rattle.sdl_system.specs.System.{SystemValue}
use Rattle.sdl_system.specs.Term.{Term, terms_of}
use Rattle.sdl_system.specs.declared.process.Process.{Process}
use Rattle.sdl_system.specs.declared.sort.Sort.{Sort}

count-of : (terms : List Term) → count_terms (terms_of terms) ≡ length terms
count-of [] = refl
count-of (term ∷ terms) = ap suc (count-of terms)

module _ (system : SystemValue) (process : Process) where
  all-sound : (terms : List Term) → AreSoundTerms system process (terms_of terms) →
      All (IsSoundTerm system process) terms
  all-sound [] are = All-nil (IsSoundTerm system process)
  all-sound (term ∷ terms) are = All-cons (IsSoundTerm system process) term terms are.0 (all-sound terms are.1)

  fit-sound : (sorts : List Sort) (terms : List Term) → FitPlaces system process sorts (terms_of terms) →
      All (IsSoundTerm system process) terms
  fit-sound sorts terms fits = all-sound terms (fitting-sound system process sorts (terms_of terms) fits)

  as-many : (sorts : List Sort) (terms : List Term) → FitPlaces system process sorts (terms_of terms) →
      length sorts ≡ length terms
  as-many sorts terms fits = sym (fitting-many system process sorts (terms_of terms) fits) ∙ count-of terms

  assigning-sound : (one : Assigning) → IsTypedAssigning system process one → IsSoundAssigning system process one
  assigning-sound one is = (
    slice_get_within process.variables.items one.variable.0 is.variable is.listed,
    kinded-sound system process is.fits.kind one.value is.fits.is,
  )

  sending-sound : (one : Sending) → IsTypedSending system process one → IsSoundSending system process one
  sending-sound one is = (
    record {
      signal = is.signal;
      listed = is.listed;
      takes = as-many is.signal.sorts.items one.values is.fits;
      none = is.none;
    },
    fit-sound is.signal.sorts.items one.values is.fits,
  )

  whither-sound : (to : Whither) → IsTypedWhither system process to → IsSoundWhither system process to
  whither-sound (body.to_process number) is = is
  whither-sound (body.to_pid who) is = kinded-sound system process is.kind who is.is

  some-whither : (to : Option Whither) → IfSome to (IsTypedWhither system process) →
      IfSome to (IsSoundWhither system process)
  some-whither None is = tt
  some-whither (Some to) is = whither-sound to is

  timing-sound : (one : Timing) → IsTypedTiming system process one → IsSoundTiming system process one
  timing-sound one is = (
    record {
      signal = is.signal;
      listed = is.listed;
      takes = as-many is.signal.sorts.items one.values is.fits;
      timer = is.timer;
      some = is.some;
    },
    fit-sound is.signal.sorts.items one.values is.fits,
  )

  when-sound : (due : When) → IsTypedWhen system process due → IsSoundWhen system process due
  when-sound (body.at time) is = kinded-sound system process is.kind time is.is
  when-sound (body.after ticks) is = tt

  setting-sound : (one : Setting) → IsTypedSetting system process one → IsSoundSetting system process one
  setting-sound one is = (timing-sound one.timer is.0, when-sound one.due is.1)

  action-sound : (action : Action) → IsTypedAction system process action → IsSoundAction system process action
  action-sound (body.task list) is =
      All-weaker (IsTypedAssigning system process) (IsSoundAssigning system process) assigning-sound list is
  action-sound (body.output signals to) is = (
    All-weaker (IsTypedSending system process) (IsSoundSending system process) sending-sound signals is.0,
    some-whither to is.1,
  )
  action-sound (body.set timers) is =
      All-weaker (IsTypedSetting system process) (IsSoundSetting system process) setting-sound timers is
  action-sound (body.reset timers) is =
      All-weaker (IsTypedTiming system process) (IsSoundTiming system process) timing-sound timers is
  action-sound (body.create number values) is = (
    record {
      process = is.created;
      listed = is.listed;
      takes = sym is.takes ∙ as-many (parameter_sorts is.created) values is.fits;
    },
    fit-sound (parameter_sorts is.created) values is.fits,
  )

pub typed-actions-are-sound : TypedActionsAreSound
typed-actions-are-sound = action-sound
