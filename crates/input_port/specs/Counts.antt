-- The law of counts: numbers alone tell that nothing was lost between threads. It speaks of lists, and of no port.
use Rattle.std.specs.Prelude.{◌≡◌, ◌≢◌, ◌≤◌, ◌+◌, ◌⊎◌, ℕ, List, [], ◌∷◌, ◌++◌, All, length, filter, count_by}
use Rattle.port_model.specs.Ends.{is_signal}
use Rattle.port_model.specs.Put.{of}
use Rattle.port_model.specs.declared.inbox.entry.Entry.{Entry}
use Rattle.port_model.specs.declared.inbox.entry.Entry.TheVariants.{Signal, Timer}
use Rattle.port_model.specs.declared.inbox.placed.Placed.{Placed}
use Rattle.port_model.specs.Same.{same_pid}
use Rattle.port_model.specs.declared.values.item.Item.{Item}
use Rattle.port_model.specs.declared.values.pid.Pid.{Pid}

-- the signals among entries, in their order
abbrev pub signal_before : Entry → List Item → List Item
signal_before (Signal item) rest = item ∷ rest
signal_before (Timer fuse) rest = rest

abbrev pub signals_in : List Placed → List Item
signals_in [] = []
signals_in (placed ∷ rest) = signal_before placed.entry (signals_in rest)

-- those that one instance, or the environment, sent
abbrev pub sent_by : Pid → List Item → List Item
sent_by origin items = filter (λ item. same_pid item.sender origin) items

-- A gathered sender: whose it was, its number at the port, and the signals that it put.
pub record Flow : Type 0 where
  pub origin : Pid
  pub number : ℕ
  pub put : List Item

-- What it put is all of one origin, and comes first among what was drawn of its number.
pub record FlowsInto (drawn : List Placed) (flow : Flow) : Type 0 where
  pub own : All (λ item. item.sender ≡ flow.origin) flow.put
  pub more : List Item
  pub first : signals_in (of flow.number drawn) ≡ flow.put ++ more

-- no two senders have one number or one origin
abbrev pub AreApart : List Flow → Type 0
AreApart [] = Unit {0}
AreApart (flow ∷ flows) =
    All (λ other. (other.number ≢ flow.number) × (other.origin ≢ flow.origin)) flows × AreApart flows

-- how many signals they put
abbrev pub put_by_all : List Flow → ℕ
put_by_all [] = 0
put_by_all (flow ∷ flows) = length flow.put + put_by_all flows

-- the signal is of one of these origins
abbrev pub IsOfOne : List Flow → Item → Type 0
IsOfOne [] item = ⊥
IsOfOne (flow ∷ flows) item = (item.sender ≡ flow.origin) ⊎ IsOfOne flows item

-- of each origin just what its sender put was drawn, in that order, and nothing else was
pub record AllIsDrawn (drawn : List Placed) (flows : List Flow) : Type 0 where
  pub each : All (λ flow. sent_by flow.origin (signals_in drawn) ≡ flow.put) flows
  pub no_other : All (IsOfOne flows) (signals_in drawn)

-- No fewer signals were drawn than the senders put.
abbrev pub NoFewerAreDrawn : Type 0
NoFewerAreDrawn = (drawn : List Placed) (flows : List Flow) → All (FlowsInto drawn) flows → AreApart flows
    → put_by_all flows ≤ count_by is_signal drawn

-- Where no more were drawn, all is drawn that was put, of each origin in its order, and nothing else.
abbrev pub CountsTell : Type 0
CountsTell = (drawn : List Placed) (flows : List Flow) → All (FlowsInto drawn) flows → AreApart flows
    → count_by is_signal drawn ≤ put_by_all flows → AllIsDrawn drawn flows
