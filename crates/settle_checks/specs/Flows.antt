-- Signals that passed between an instance and others, counted (Z.102: input, output).
use Rattle.std.specs.Prelude.{◌≡◌, ◌<◌, ℕ, Bool, List, [], ◌∷◌, ◌++◌, count_by, if◌then◌else◌, length, slice_index_or}
use Rattle.std.specs.List.{flat_map, sum_by}
use Rattle.port_model.specs.declared.got.Got as got
use Rattle.port_model.specs.declared.got.Got.TheVariants as came
use Rattle.port_model.specs.Same.{same_pid}
use Rattle.port_model.specs.declared.values.item.SignalId.{SignalId}
use Rattle.port_model.specs.declared.values.pid.Pid.TheVariants.{Of}
use Rattle.run_record.specs.Event as event
use Rattle.run_record.specs.Event.{Event}
use Rattle.run_semantics.specs.World.{time_after_one}
use Rattle.sdl_system.specs.declared.route.Target.{Target}
use Rattle.sdl_system.specs.declared.route.Target.TheVariants.{Instance}
use Rattle.settle_checks.specs.declared.summing.flows.Flow.{Flow}
use Rattle.settle_checks.specs.declared.summing.flows.Pass.{Pass}

-- ---- what passes

-- what is sent to an instance, at this time
abbrev pub passes_to : ℕ → SignalId → Target → List Pass
passes_to at signal (Instance number) = record { peer = Of number; name = signal; at = at } ∷ []
passes_to at signal target = []

abbrev pub passes_out : ℕ → Event → List Pass
passes_out at (event.Output signal to values target) = passes_to at signal target
passes_out at happened = []

-- all that the events send, each at the time of its transition
abbrev pub sent_passes : ℕ → List Event → List Pass
sent_passes earlier [] = []
sent_passes earlier (happened ∷ rest) =
    passes_out earlier happened ++ sent_passes (time_after_one earlier happened) rest

-- what an event takes
abbrev pub pass_of_got : ℕ → got.Got → List Pass
pass_of_got at (came.Signal item) = record { peer = item.sender; name = item.name; at = at } ∷ []
pass_of_got at (came.Timer key) = []

abbrev pub passes_in : Event → List Pass
passes_in (event.Consumed at got) = pass_of_got at got
passes_in (event.Prior at got) = pass_of_got at got
passes_in (event.Discarded at got) = pass_of_got at got
passes_in happened = []

abbrev pub taken_passes : List Event → List Pass
taken_passes events = flat_map passes_in events

-- it went to the instance of this number, or came from there
abbrev pub is_with : ℕ → Pass → Bool
is_with number pass = same_pid pass.peer (Of number)

-- ---- counts

-- how many of the signals in these flows pass a test
abbrev pub counted : (Pass → Bool) → List Flow → ℕ
counted P flows = sum_by (λ (flow : Flow). if P flow.pass then flow.count else 0) flows

-- the flows have each of these signals, as often as it passed
abbrev pub AreFlows : List Pass → List Flow → Type 0
AreFlows passes flows = (P : Pass → Bool) → counted P flows ≡ count_by P passes

-- the flow at this place is one of this kind of signal
pub record IsPlaceOf (flows : List Flow) (pass : Pass) (place : ℕ) : Type 0 where
  pub within : place < length flows
  pub same : (d : Flow) → (slice_index_or flows place d).pass ≡ pass
