-- Which signals a list stands for.
use Rattle.std.specs.Prelude.{◌≡◌, ℕ, zero, suc, ◌/◌, ◌%◌, ◌<◌, ◌↔◌, List, [], ◌∷◌, None, Some, slice_get}
use Rattle.port_model.specs.declared.values.item.SignalId.{SignalId}
use Rattle.build_routes.specs.Each.{ForSome}
use Rattle.build_routes.specs.Mask.{Has}
use Rattle.build_routes.specs.declared.network.graph.Step.{Step}
use Rattle.build_routes.specs.declared.network.list.Item as entry
use Rattle.build_routes.specs.declared.network.list.Item.TheVariants as item
use Rattle.build_routes.specs.declared.network.list.ListId.{ListId}
use Rattle.build_routes.specs.declared.network.list.SignalList.{SignalList}
use Rattle.build_routes.specs.declared.network.signal_sets.Column.{Column}
use Rattle.build_routes.specs.declared.network.signal_sets.SignalSets.{SignalSets}

-- A list stands for the signals that it names and for those of the lists that it names. So lists in a circle stand for the
-- signals of them all.
pub data StandsFor (lists : List SignalList) (signal : SignalId) : ListId → Type 0 where
  names : {list : ListId} (named : SignalList) (n : ℕ) → slice_get lists list.0 ≡ Some named
      → slice_get named.items.items n ≡ Some (item.Signal signal) → StandsFor lists signal list
  goes_on : {list : ListId} (named : SignalList) (n : ℕ) (other : ListId) → slice_get lists list.0 ≡ Some named
      → slice_get named.items.items n ≡ Some (item.List other) → StandsFor lists signal other → StandsFor lists signal list

-- the masks of all lists for the n-th 64 signals
abbrev pub column : List Column → ℕ → List ℕ
column [] n = []
column (first ∷ columns) zero = first.masks.items
column (first ∷ columns) (suc n) = column columns n

abbrev pub column_of : SignalSets → ℕ → List ℕ
column_of sets n = column sets.columns.items n

-- the sets have the signal in the set of the list
abbrev pub HasSignal : SignalSets → ListId → SignalId → Type 0
HasSignal sets list signal = Has (column_of sets (signal.0 / 64)) list.0 (signal.0 % 64)

-- the sets are those of the lists, of the signals with a number below this one
abbrev pub AreSets : List SignalList → ℕ → SignalSets → Type 0
AreSets lists signals sets = (list : ListId) (signal : SignalId) → signal.0 < signals → HasSignal sets list signal ↔ StandsFor lists signal list

-- the entry is a signal that stands at place k of the n-th 64
abbrev pub IsSignalAt : ℕ → ℕ → entry.Item → Type 0
IsSignalAt n k (item.Signal signal) = (signal.0 / 64 ≡ n) × (signal.0 % 64 ≡ k)
IsSignalAt n k (item.List other) = ⊥

-- so is one of a list
abbrev pub NamesIn : List SignalList → ℕ → ℕ → ℕ → Type 0
NamesIn lists n list k =
    (named : SignalList) × (slice_get lists list ≡ Some named) × ForSome named.items.items (λ j entry. IsSignalAt n k entry)

-- the signals of the entry, if it is a list, flow to this list
abbrev pub EntryStep : ℕ → entry.Item → ℕ → Step → Type 0
EntryStep list (item.Signal signal) from step = ⊥
EntryStep list (item.List other) from step = (from ≡ other.0) × (step ≡ record { to = list; only = None })

abbrev pub EntrySteps : ℕ → List entry.Item → ℕ → Step → Type 0
EntrySteps list entries from step = ForSome entries (λ j entry. EntryStep list entry from step)

abbrev pub ListSteps : List SignalList → ℕ → Step → Type 0
ListSteps lists from step = ForSome lists (λ list named. EntrySteps list named.items.items from step)
