-- What the work of an instance is once the first event of a step is recorded.
use Rattle.std.proofs.Common.{◌≡◌, ◌∙◌, ap, ℕ}
use Rattle.port_model.specs.Ends.{OwnerState}
use Rattle.port_model.specs.declared.got.Got.{Got}
use Rattle.port_model.specs.declared.values.pid.Pid.{Pid}
use Rattle.port_model.specs.declared.values.pid.Pid.TheVariants.{Of}
use Rattle.run_record.specs.declared.evaluation.store.Store.{Store}
use Rattle.run_record.specs.Event as event
use Rattle.run_record.specs.Event.{Event}
use Rattle.run_record.specs.Record.{RecordValue, noted, with_room}
use Rattle.run_semantics.specs.Goes.{with_event}
use Rattle.run_semantics.specs.Reception.{provided, sender_of, taking}
use Rattle.sdl_interp.specs.Machine.{identity_of, value_of}
use Rattle.sdl_interp.specs.declared.transitions.machine.Machine.{Machine}

-- ---- the work

module _ (owner : OwnerState) (old x : Machine) (at : ℕ)
    (read : x ≡ record old { store = record old.store { time = at } }) where
  pub started_is : (trace : RecordValue) → trace ≡ noted x.trace (event.Start at)
      → value_of (record { store = record x.store { done = 0 }; trace = trace }) owner
      ≡ with_event (record (value_of old owner) { store = record old.store { time = at; done = 0 } }) (event.Start at)
  started_is trace told =
      ap (λ (t : RecordValue). value_of (record { store = record x.store { done = 0 }; trace = t }) owner) told
      ∙ ap (λ (y : Machine).
      value_of (record { store = record y.store { done = 0 }; trace = noted y.trace (event.Start at) }) owner) read

  pub provided_is : (trace : RecordValue) (pid number : ℕ) → pid ≡ x.trace.pid
      → trace ≡ noted x.trace (event.Provided at number)
      → value_of (record { store = record x.store { sender = Of pid; done = 0 }; trace = trace }) owner
      ≡ with_event (record (value_of old owner) { store = provided (identity_of old.trace) at old.store })
      (event.Provided at number)
  provided_is trace pid number own told =
      ap (λ (t : RecordValue).
      value_of (record { store = record x.store { sender = Of pid; done = 0 }; trace = t }) owner) told
      ∙ ap (λ (one : ℕ). value_of (record {
        store = record x.store { sender = Of one; done = 0 };
        trace = noted x.trace (event.Provided at number);
      }) owner) own
      ∙ ap (λ (y : Machine). value_of (record {
        store = record y.store { sender = Of y.trace.pid; done = 0 };
        trace = noted y.trace (event.Provided at number);
      }) owner) read

  pub discarded_is : (trace : RecordValue) (got : Got) (sender : Pid) → sender ≡ sender_of (identity_of x.trace) got
      → trace ≡ noted x.trace (event.Discarded at got)
      → value_of (record { store = record x.store { sender = sender }; trace = trace }) owner
      ≡ with_event (record (value_of old owner) { store = taking (identity_of old.trace) at got old.store })
      (event.Discarded at got)
  discarded_is trace got sender from told =
      ap (λ (t : RecordValue). value_of (record { store = record x.store { sender = sender }; trace = t }) owner) told
      ∙ ap (λ (one : Pid). value_of (record {
        store = record x.store { sender = one };
        trace = noted x.trace (event.Discarded at got);
      }) owner) from
      ∙ ap (λ (y : Machine). value_of (record {
        store = record y.store { sender = sender_of (identity_of y.trace) got };
        trace = noted y.trace (event.Discarded at got);
      }) owner) read

-- an event is recorded once a signal was received
pub received_is : (owner : OwnerState) (old x : Machine) (trace : RecordValue) (s : Store) (happened : Event)
    → x.store ≡ s → x.trace ≡ old.trace → trace ≡ noted x.trace happened
    → value_of (record { store = x.store; trace = trace }) owner
    ≡ with_event (record (value_of old owner) { store = s }) happened
received_is owner old x trace s happened known same told =
    ap (λ (t : RecordValue). value_of (record { store = x.store; trace = t }) owner) told
    ∙ ap (λ (t : RecordValue). value_of (record { store = x.store; trace = noted t happened }) owner) same
    ∙ ap (λ (y : Store). value_of (record { store = y; trace = noted old.trace happened }) owner) known

-- room is made
pub roomy_is : (owner : OwnerState) (old x : Machine) (events values : ℕ)
    → x ≡ record old { trace = with_room old.trace events values } → value_of x owner ≡ value_of old owner
roomy_is owner old x events values is = ap (λ (y : Machine). value_of y owner) is
