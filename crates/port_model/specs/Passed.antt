-- The entries that a port has passed over.
use Rattle.std.specs.Prelude.{◌≡◌, ℕ, ◌==◌, ◌<◌, Bool, false, List, ◌∷◌, ◌++◌, All, Option, None, Some}
use Rattle.std.specs.List.{list_any}
use Rattle.std.specs.Map.{keys_of, lookup, values_of}
use Rattle.std.specs.List.Sorted.{IsStrictlySortedBy}
use Rattle.std.specs.Ordering.{nat_cmp}
use Rattle.std.specs.BTreeMap.{is_at}
use Rattle.port_model.specs.declared.values.item.SignalId.{SignalId}
use Rattle.port_model.specs.declared.values.timer_key.TimerKey.{TimerKey}
use Rattle.port_model.specs.declared.got.Got.{Got}
use Rattle.port_model.specs.declared.places.NamedPlace.{NamedPlace}
use Rattle.port_model.specs.Places.{has_place, place_of, PlacesValue}
use Rattle.port_model.specs.Take.{name_of}
use Rattle.port_model.specs.Timers.{is_signal_of}

-- an entry and its place
abbrev pub Standing : Type 0
Standing = ℕ × Got

-- the entries in order, and the one at a place
abbrev pub gots_in : List Standing → List Got
gots_in entries = values_of entries

abbrev pub entry_at : ℕ → List Standing → Option Got
entry_at place entries = lookup (is_at (nat_cmp place)) entries

-- an entry of this name stands there; the place is this one; the signal of this timer stands there
abbrev pub has_name : SignalId → Option Got → Bool
has_name name None = false
has_name name (Some got) = (name_of got).0 == name.0

abbrev pub is_place : ℕ → Option ℕ → Bool
is_place place None = false
is_place place (Some p) = p == place

abbrev pub has_signal_of : TimerKey → Option Got → Bool
has_signal_of key None = false
has_signal_of key (Some got) = is_signal_of key got

-- the entries are in order, and what is known of places is what stands there
pub record IsPassed (entries : List Standing) (places : PlacesValue) : Type 0 where
  pub ordered : IsStrictlySortedBy nat_cmp (keys_of entries)
  pub names : (q : NamedPlace) → has_place places q ≡ has_name q.name (entry_at q.place entries)
  pub timers : (key : TimerKey) (place : ℕ) → is_place place (place_of places key) ≡ has_signal_of key (entry_at place entries)

-- the entries stand before this place
abbrev pub AreBefore : ℕ → List Standing → Type 0
AreBefore place entries = All (λ (e : Standing). e.0 < place) entries

-- the entry at a place is taken out; those before it stand at lesser places, and those after it at greater ones
pub record Loses (old : List Standing) (place : ℕ) (got : Got) (new : List Standing) : Type 0 where
  pub before : List Standing
  pub after : List Standing
  pub was : old ≡ before ++ (place, got) ∷ after
  pub now : new ≡ before ++ after
  pub lesser : AreBefore place before
  pub greater : All (λ (e : Standing). place < e.0) after

-- the signal of a timer is among the entries
abbrev pub holds_signal_of : TimerKey → List Got → Bool
holds_signal_of key gots = list_any (is_signal_of key) gots
