-- Records that say the same.
use Rattle.std.proofs.Common.{◌≡◌, ◌∙◌, Bool, List, true, false, ap, refl, sym}
use Rattle.std.specs.Prelude.{◌↔◌}
use Rattle.port_model.specs.declared.got.Got.{Got}
use Rattle.port_model.specs.declared.got.Got.TheVariants as came
use Rattle.port_model.specs.Same.{same_values, same_values-Decides}
use Rattle.port_model.specs.declared.values.item.SignalId.{SignalId}
use Rattle.port_model.specs.declared.values.pid.Pid.{Pid}
use Rattle.port_model.specs.declared.values.pid.Pid.TheVariants as who
use Rattle.port_model.specs.declared.values.value.Value.{Value}
use Rattle.run_order.specs.Comparing.{has_values}
use Rattle.run_record.specs.Entry.{event_of, got_from}
use Rattle.run_record.specs.Event as event
use Rattle.run_record.specs.Event.{Event, values_got, values_of}
use Rattle.run_record.specs.declared.entry.Entry.{Entry}
use Rattle.run_record.specs.declared.entry.Entry.TheVariants as entry
use Rattle.run_record.specs.declared.entry.Origin.{Origin}
use Rattle.run_record.specs.declared.entry.Origin.TheVariants as origin
use Rattle.run_record.specs.declared.entry.Stimulus.{Stimulus}

pub values_same : (xs ys : List Value) → (same_values xs ys ≡ true) ↔ (xs ≡ ys)
values_same xs ys = same_values-Decides xs ys

-- ---- the entry of an event

abbrev origin_of : Pid → Origin
origin_of who.Null = origin.Null
origin_of who.Env = origin.Env
origin_of (who.Of number) = origin.Instance number

abbrev stimulus_of : Got → Stimulus
stimulus_of (came.Signal item) = record { name = item.name; origin = origin_of item.sender }
stimulus_of (came.Timer key) = record { name = key.name; origin = origin.Timer }

abbrev entry_of : Event → Entry
entry_of (event.Start at) = entry.Start at
entry_of (event.Consumed at got) = entry.Consumed at (stimulus_of got)
entry_of (event.Prior at got) = entry.Prior at (stimulus_of got)
entry_of (event.Discarded at got) = entry.Discarded at (stimulus_of got)
entry_of (event.Provided at number) = entry.Provided at number
entry_of (event.FailedAt at why) = entry.FailedAt at why
entry_of (event.Task variable value) = entry.Task variable value
entry_of (event.Output signal to values target) = entry.Output signal to target
entry_of (event.Set key due) = entry.Set key.name due
entry_of (event.Reset key) = entry.Reset key.name
entry_of (event.Create process number) = entry.Create process number
entry_of (event.NextState state) = entry.NextState state
entry_of event.Stop = entry.Stop
entry_of (event.Failed why) = entry.Failed why
entry_of (event.Rest state) = entry.Rest state
entry_of (event.Cut state) = entry.Cut state

stimulus_back : (from : Origin) (name : SignalId) (values : List Value)
    → stimulus_of (got_from from name values) ≡ record { name = name; origin = from }
stimulus_back origin.Timer name values = refl
stimulus_back origin.Null name values = refl
stimulus_back origin.Env name values = refl
stimulus_back (origin.Instance number) name values = refl

values_back : (from : Origin) (name : SignalId) (values : List Value) → values_got (got_from from name values) ≡ values
values_back origin.Timer name values = refl
values_back origin.Null name values = refl
values_back origin.Env name values = refl
values_back (origin.Instance number) name values = refl

entry_back : (e : Entry) (values : List Value) → entry_of (event_of e values) ≡ e
entry_back (entry.Start at) values = refl
entry_back (entry.Consumed at got) values = ap (entry.Consumed at) (stimulus_back got.origin got.name values)
entry_back (entry.Prior at got) values = ap (entry.Prior at) (stimulus_back got.origin got.name values)
entry_back (entry.Discarded at got) values = ap (entry.Discarded at) (stimulus_back got.origin got.name values)
entry_back (entry.Provided at number) values = refl
entry_back (entry.FailedAt at why) values = refl
entry_back (entry.Task variable value) values = refl
entry_back (entry.Output signal to target) values = refl
entry_back (entry.Set timer due) values = refl
entry_back (entry.Reset timer) values = refl
entry_back (entry.Create process pid) values = refl
entry_back (entry.NextState state) values = refl
entry_back entry.Stop values = refl
entry_back (entry.Failed why) values = refl
entry_back (entry.Rest state) values = refl
entry_back (entry.Cut state) values = refl

-- the values of an event that has some
event_values : (e : Entry) (values : List Value) → has_values e ≡ true → values_of (event_of e values) ≡ values
event_values (entry.Start at) values has = cc
event_values (entry.Consumed at got) values has = values_back got.origin got.name values
event_values (entry.Prior at got) values has = values_back got.origin got.name values
event_values (entry.Discarded at got) values has = values_back got.origin got.name values
event_values (entry.Provided at number) values has = cc
event_values (entry.FailedAt at why) values has = cc
event_values (entry.Task variable value) values has = cc
event_values (entry.Output signal to target) values has = refl
event_values (entry.Set timer due) values has = refl
event_values (entry.Reset timer) values has = refl
event_values (entry.Create process pid) values has = cc
event_values (entry.NextState state) values has = cc
event_values entry.Stop values has = cc
event_values (entry.Failed why) values has = cc
event_values (entry.Rest state) values has = cc
event_values (entry.Cut state) values has = cc

-- an event that has none is the same with any
event_bare : (e : Entry) (values others : List Value) → has_values e ≡ false → event_of e values ≡ event_of e others
event_bare (entry.Start at) values others none = refl
event_bare (entry.Consumed at got) values others none = cc
event_bare (entry.Prior at got) values others none = cc
event_bare (entry.Discarded at got) values others none = cc
event_bare (entry.Provided at number) values others none = refl
event_bare (entry.FailedAt at why) values others none = refl
event_bare (entry.Task variable value) values others none = refl
event_bare (entry.Output signal to target) values others none = cc
event_bare (entry.Set timer due) values others none = cc
event_bare (entry.Reset timer) values others none = cc
event_bare (entry.Create process pid) values others none = refl
event_bare (entry.NextState state) values others none = refl
event_bare entry.Stop values others none = refl
event_bare (entry.Failed why) values others none = refl
event_bare (entry.Rest state) values others none = refl
event_bare (entry.Cut state) values others none = refl

-- ---- the same event

-- events of other entries
pub other_event : (e f : Entry) (values others : List Value) → (e ≡ f → ⊥) → event_of e values ≡ event_of f others → ⊥
other_event e f values others differ same =
    differ (sym (entry_back e values) ∙ ap entry_of same ∙ entry_back f others)

-- events of the same entry, with the same values, if it has any
pub by_values : (r : Bool) (e f : Entry) (values others : List Value) → e ≡ f → has_values e ≡ true
    → ((r ≡ true) ↔ (values ≡ others)) → ((r ≡ true) ↔ (event_of e values ≡ event_of f others))
by_values r e f values others is has same = (
  λ yes. (λ i. event_of (is i) (same.0 yes i)),
  λ events.
      same.1 (sym (event_values e values has) ∙ ap values_of events
      ∙ event_values f others (ap has_values (sym is) ∙ has)),
)

pub by_entry : (r : Bool) (e f : Entry) (values others : List Value) → r ≡ true → e ≡ f → has_values e ≡ false
    → ((r ≡ true) ↔ (event_of e values ≡ event_of f others))
by_entry r e f values others is_true is none = (
  λ so. event_bare e values others none ∙ ap (λ (g : Entry). event_of g others) is,
  λ events. is_true,
)
