-- What an instance knows once it has received something.
use Rattle.std.proofs.Common.{◌≡◌, ◌∙◌, ℕ, List, Option, Some, Result, Ok, ap, sym}
use Rattle.port_model.specs.Take.{name_of}
use Rattle.port_model.specs.declared.got.Got.{Got}
use Rattle.port_model.specs.declared.values.item.SignalId.{SignalId}
use Rattle.port_model.specs.declared.values.value.Value.{Value}
use Rattle.run_record.specs.declared.evaluation.store.Store.{Store}
use Rattle.run_record.specs.Event.{Event, values_got}
use Rattle.sdl_system.specs.declared.id.StateId.{StateId}
use Rattle.sdl_system.specs.declared.process.Process.{Process}
use Rattle.sdl_system.specs.declared.state.Reception.{Reception}
use Rattle.sdl_failures.specs.Received.{kept, received, received_by, reception_in}
use Rattle.sdl_failures.specs.Told.{begun_at, store_after}
use Rattle.sdl_failures.specs.declared.replayed.reception.Misfit.{Misfit}

-- all values fit the variables of what begins with the signal
pub received_whole : (process : Process) (state : Option StateId) (own at : ℕ) (got : Got) (s begun t : Store)
    (signal : SignalId) (values : List Value) (reception : Reception) → name_of got ≡ signal → values_got got ≡ values
    → reception_in process state signal ≡ Some reception → begun_at own at got s ≡ begun
    → received process reception.variables.items values begun ≡ Ok t
    → received_by process (reception_in process state (name_of got)) (values_got got) (begun_at own at got s) ≡ Some t
received_whole process state own at got s begun t signal values reception name list found begins all =
    ap (λ (n : SignalId). received_by process (reception_in process state n) (values_got got) (begun_at own at got s)) name
    ∙ ap (λ (vs : List Value). received_by process (reception_in process state signal) vs (begun_at own at got s)) list
    ∙ ap (λ (r : Option Reception). received_by process r values (begun_at own at got s)) found
    ∙ ap (λ (b : Store). kept (received process reception.variables.items values b)) begins
    ∙ ap (λ (r : Result Store Misfit). kept r) all

-- the instance is this one
pub told_own : (p process : Process) (n number : ℕ) (state : Option StateId) (s t : Store) (happened : Event)
    → p ≡ process → n ≡ number → store_after p n state s happened ≡ Some t
    → store_after process number state s happened ≡ Some t
told_own p process n number state s t happened same own told =
    ap (λ (x : Process). store_after x number state s happened) (sym same)
    ∙ ap (λ (x : ℕ). store_after p x state s happened) (sym own)
    ∙ told
