-- What makes no event, begins nothing, and changes nothing.
use Rattle.std.proofs.Common.{◌≡◌, ℕ, List, Option, None, Some, refl}
use Rattle.port_model.specs.Port.{PortState}
use Rattle.port_model.specs.declared.values.item.SignalId.{SignalId}
use Rattle.port_model.specs.declared.values.value.Value.{Value}
use Rattle.run_record.specs.declared.evaluation.store.Store.{Store}
use Rattle.run_record.specs.Entry.{event_of}
use Rattle.run_record.specs.declared.entry.Entry.{Entry}
use Rattle.run_record.specs.declared.entry.Entry.TheVariants as entry
use Rattle.run_record.specs.declared.entry.Stimulus.{Stimulus}
use Rattle.run_record.specs.declared.failure.Failure.{Failure}
use Rattle.sdl_system.specs.declared.id.ProcessId.{ProcessId}
use Rattle.sdl_system.specs.declared.id.StateId.{StateId}
use Rattle.sdl_system.specs.declared.id.VariableId.{VariableId}
use Rattle.sdl_system.specs.declared.process.Process.{Process}
use Rattle.sdl_failures.specs.Came.{begin_of}
use Rattle.sdl_failures.specs.Ending.{failure_by}
use Rattle.sdl_failures.specs.Told.{port_after, state_after, store_after}

-- an event that fails nothing
pub no-failure : (e : Entry) (values : List Value)
    → ((at : ℕ) (why : Failure) → e ≡ entry.FailedAt at why → ⊥)
    → ((why : Failure) → e ≡ entry.Failed why → ⊥)
    → failure_by (event_of e values) ≡ None
no-failure (entry.Start at) values a b = refl
no-failure (entry.Consumed at got) values a b = refl
no-failure (entry.Prior at got) values a b = refl
no-failure (entry.Discarded at got) values a b = refl
no-failure (entry.Provided at number) values a b = refl
no-failure (entry.FailedAt at why) values a b = absurd (a at why refl)
no-failure (entry.Task variable value) values a b = refl
no-failure (entry.Output signal to target) values a b = refl
no-failure (entry.Set timer due) values a b = refl
no-failure (entry.Reset timer) values a b = refl
no-failure (entry.Create made pid) values a b = refl
no-failure (entry.NextState entered) values a b = refl
no-failure entry.Stop values a b = refl
no-failure (entry.Failed why) values a b = absurd (b why refl)
no-failure (entry.Rest rests) values a b = refl
no-failure (entry.Cut cut) values a b = refl

-- one that begins no transition
pub no-begin : (process : Process) (state : Option StateId) (e : Entry) (values : List Value)
    → ((at : ℕ) → e ≡ entry.Start at → ⊥)
    → ((at : ℕ) (got : Stimulus) → e ≡ entry.Consumed at got → ⊥)
    → ((at : ℕ) (got : Stimulus) → e ≡ entry.Prior at got → ⊥)
    → ((at : ℕ) (number : ℕ) → e ≡ entry.Provided at number → ⊥)
    → begin_of process state (event_of e values) ≡ None
no-begin process state (entry.Start at) values a b c d = absurd (a at refl)
no-begin process state (entry.Consumed at got) values a b c d = absurd (b at got refl)
no-begin process state (entry.Prior at got) values a b c d = absurd (c at got refl)
no-begin process state (entry.Discarded at got) values a b c d = refl
no-begin process state (entry.Provided at number) values a b c d = absurd (d at number refl)
no-begin process state (entry.FailedAt at why) values a b c d = refl
no-begin process state (entry.Task variable value) values a b c d = refl
no-begin process state (entry.Output signal to target) values a b c d = refl
no-begin process state (entry.Set timer due) values a b c d = refl
no-begin process state (entry.Reset timer) values a b c d = refl
no-begin process state (entry.Create made pid) values a b c d = refl
no-begin process state (entry.NextState entered) values a b c d = refl
no-begin process state entry.Stop values a b c d = refl
no-begin process state (entry.Failed why) values a b c d = refl
no-begin process state (entry.Rest rests) values a b c d = refl
no-begin process state (entry.Cut cut) values a b c d = refl

-- one that enters no state
pub no-state : (state : Option StateId) (e : Entry) (values : List Value)
    → ((entered : StateId) → e ≡ entry.NextState entered → ⊥)
    → state_after state (event_of e values) ≡ state
no-state state (entry.Start at) values a = refl
no-state state (entry.Consumed at got) values a = refl
no-state state (entry.Prior at got) values a = refl
no-state state (entry.Discarded at got) values a = refl
no-state state (entry.Provided at number) values a = refl
no-state state (entry.FailedAt at why) values a = refl
no-state state (entry.Task variable value) values a = refl
no-state state (entry.Output signal to target) values a = refl
no-state state (entry.Set timer due) values a = refl
no-state state (entry.Reset timer) values a = refl
no-state state (entry.Create made pid) values a = refl
no-state state (entry.NextState entered) values a = absurd (a entered refl)
no-state state entry.Stop values a = refl
no-state state (entry.Failed why) values a = refl
no-state state (entry.Rest rests) values a = refl
no-state state (entry.Cut cut) values a = refl

-- one of which the store knows nothing
pub no-news : (process : Process) (own : ℕ) (state : Option StateId) (s : Store) (e : Entry) (values : List Value)
    → ((at : ℕ) → e ≡ entry.Start at → ⊥)
    → ((at : ℕ) (got : Stimulus) → e ≡ entry.Consumed at got → ⊥)
    → ((at : ℕ) (got : Stimulus) → e ≡ entry.Prior at got → ⊥)
    → ((at : ℕ) (got : Stimulus) → e ≡ entry.Discarded at got → ⊥)
    → ((at : ℕ) (number : ℕ) → e ≡ entry.Provided at number → ⊥)
    → ((variable : VariableId) (value : Value) → e ≡ entry.Task variable value → ⊥)
    → ((made : ProcessId) (pid : Option ℕ) → e ≡ entry.Create made pid → ⊥)
    → store_after process own state s (event_of e values) ≡ Some s
no-news process own state s (entry.Start at) values a b c d e f g = absurd (a at refl)
no-news process own state s (entry.Consumed at got) values a b c d e f g = absurd (b at got refl)
no-news process own state s (entry.Prior at got) values a b c d e f g = absurd (c at got refl)
no-news process own state s (entry.Discarded at got) values a b c d e f g = absurd (d at got refl)
no-news process own state s (entry.Provided at number) values a b c d e f g = absurd (e at number refl)
no-news process own state s (entry.FailedAt at why) values a b c d e f g = refl
no-news process own state s (entry.Task variable value) values a b c d e f g = absurd (f variable value refl)
no-news process own state s (entry.Output signal to target) values a b c d e f g = refl
no-news process own state s (entry.Set timer due) values a b c d e f g = refl
no-news process own state s (entry.Reset timer) values a b c d e f g = refl
no-news process own state s (entry.Create made pid) values a b c d e f g = absurd (g made pid refl)
no-news process own state s (entry.NextState entered) values a b c d e f g = refl
no-news process own state s entry.Stop values a b c d e f g = refl
no-news process own state s (entry.Failed why) values a b c d e f g = refl
no-news process own state s (entry.Rest rests) values a b c d e f g = refl
no-news process own state s (entry.Cut cut) values a b c d e f g = refl

-- one of no timer
pub no-timer : (port : PortState) (e : Entry) (values : List Value)
    → ((at : ℕ) (got : Stimulus) → e ≡ entry.Consumed at got → ⊥)
    → ((at : ℕ) (got : Stimulus) → e ≡ entry.Prior at got → ⊥)
    → ((at : ℕ) (got : Stimulus) → e ≡ entry.Discarded at got → ⊥)
    → ((timer : SignalId) (due : ℕ) → e ≡ entry.Set timer due → ⊥)
    → ((timer : SignalId) → e ≡ entry.Reset timer → ⊥)
    → port_after port (event_of e values) ≡ port
no-timer port (entry.Start at) values a b c d e = refl
no-timer port (entry.Consumed at got) values a b c d e = absurd (a at got refl)
no-timer port (entry.Prior at got) values a b c d e = absurd (b at got refl)
no-timer port (entry.Discarded at got) values a b c d e = absurd (c at got refl)
no-timer port (entry.Provided at number) values a b c d e = refl
no-timer port (entry.FailedAt at why) values a b c d e = refl
no-timer port (entry.Task variable value) values a b c d e = refl
no-timer port (entry.Output signal to target) values a b c d e = refl
no-timer port (entry.Set timer due) values a b c d e = absurd (d timer due refl)
no-timer port (entry.Reset timer) values a b c d e = absurd (e timer refl)
no-timer port (entry.Create made pid) values a b c d e = refl
no-timer port (entry.NextState entered) values a b c d e = refl
no-timer port entry.Stop values a b c d e = refl
no-timer port (entry.Failed why) values a b c d e = refl
no-timer port (entry.Rest rests) values a b c d e = refl
no-timer port (entry.Cut cut) values a b c d e = refl
