-- Why a create gives null.
use Rattle.std.proofs.Common.{◌≡◌, ◌∙◌, ◌≤◌, ap, arith, subst, sym, ℕ, List, [], ◌∷◌, All, None, Some}
use Rattle.std.proofs.lemmas.List.Elements.{All-cons, All-nil}
use Rattle.std.specs.Prelude.{slice_get}
use Rattle.std.specs.Option.{option_map_or}
use Rattle.run_record.specs.Event as event
use Rattle.run_record.specs.Event.{Event}
use Rattle.run_record.specs.Record.{RecordValue}
use Rattle.sdl_system.specs.System.{SystemValue}
use Rattle.sdl_system.specs.declared.id.ProcessId.{ProcessId}
use Rattle.sdl_system.specs.declared.process.Process.{Process}
use Rattle.settle_checks.specs.Events.{refused_in}
use Rattle.settle_meaning.specs.Identities.{HasCause, HasNoNumber, as_many, count_of}

module _ (system : SystemValue) (records : List RecordValue) where
  pub refused_has : (happened : Event) → refused_in happened ≡ None → HasCause system records happened
  refused_has (event.Create process None) none = let wrong : ⊥ = cc in absurd wrong
  refused_has (event.Create process (Some number)) none = tt
  refused_has (event.Start at) none = tt
  refused_has happened none = tt

  pub cause_of : (happened : Event) (process : ProcessId) → refused_in happened ≡ Some process
      → HasNoNumber system records process → HasCause system records happened
  cause_of (event.Create other None) process is why =
      let same : other ≡ process = cc in
      subst (λ p. HasNoNumber system records p) (sym same) why
  cause_of (event.Create other (Some number)) process is why = tt
  cause_of (event.Start at) process is why = tt
  cause_of happened process is why = tt

  -- whatever is created
  pub any_cause : ((process : ProcessId) → HasNoNumber system records process) → (happened : Event)
      → HasCause system records happened
  any_cause why (event.Create process None) = why process
  any_cause why (event.Create process (Some number)) = tt
  any_cause why (event.Start at) = tt
  any_cause why happened = tt

  pub all_cause : ((process : ProcessId) → HasNoNumber system records process) → (traces : List RecordValue)
      → All (λ (trace : RecordValue). All (HasCause system records) trace.events) traces
  all_cause why [] = All-nil (λ (trace : RecordValue). All (HasCause system records) trace.events)
  all_cause why (trace ∷ rest) =
      All-cons (λ (trace : RecordValue). All (HasCause system records) trace.events) trace rest (events trace.events)
      (all_cause why rest) where
        events : (list : List Event) → All (HasCause system records) list
        events [] = All-nil (HasCause system records)
        events (e ∷ es) = All-cons (HasCause system records) e es (any_cause why e) (events es)

  -- no process, or one of which as many live as may
  pub no_process : (process : ProcessId) → slice_get system.processes process.0 ≡ None
      → HasNoNumber system records process
  no_process process none =
      as_many 0 (ap (λ o. option_map_or (λ (p : Process). p.maximum) o (Some 0)) none) (omega arith)

  pub full_process : (process : ProcessId) (p : Process) (most : ℕ) → slice_get system.processes process.0 ≡ Some p
      → p.maximum ≡ Some most → most ≤ count_of records process → HasNoNumber system records process
  full_process process p most is bound many =
      as_many most (ap (λ o. option_map_or (λ (p : Process). p.maximum) o (Some 0)) is ∙ bound) many
