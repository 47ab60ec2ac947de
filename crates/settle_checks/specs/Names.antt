-- The numbers that signals of the script name.
use Rattle.std.specs.Prelude.{◌≡◌, ◌⊎◌, ℕ, Bool, true, false, List, Contains, slice_index_or}
use Rattle.port_model.specs.declared.values.pid.Pid.{Pid}
use Rattle.port_model.specs.declared.values.pid.Pid.TheVariants.{Of}
use Rattle.port_model.specs.declared.values.value.Value.TheVariants as value
use Rattle.sdl_script.specs.declared.script.ScriptSignal.{ScriptSignal}
use Rattle.sdl_system.specs.declared.route.Dest.TheVariants as dest

-- a signal names the number: it is sent there, or the number is among its values
abbrev pub NamesIt : ScriptSignal → ℕ → Type 0
NamesIt signal number = (signal.to ≡ dest.Pid (Of number)) ⊎ Contains signal.item.values (value.Pid (Of number))

-- so does one of these
pub record NamesIn (signals : List ScriptSignal) (number : ℕ) : Type 0 where
  pub one : ScriptSignal
  pub among : Contains signals one
  pub names : NamesIt one number

-- each number for which the row says so is named by one of these signals
abbrev pub AreNamedBy : List ScriptSignal → List Bool → Type 0
AreNamedBy signals named = (number : ℕ) → slice_index_or named number false ≡ true → NamesIn signals number

-- the row says nothing more, but of this number
abbrev pub AddsOnly : List Bool → Pid → List Bool → Type 0
AddsOnly old pid new =
    (number : ℕ) → slice_index_or new number false ≡ true → (slice_index_or old number false ≡ true) ⊎ (pid ≡ Of number)

-- the row says nothing more, but of what the signal names
abbrev pub AddsNamed : List Bool → ScriptSignal → List Bool → Type 0
AddsNamed old signal new =
    (number : ℕ) → slice_index_or new number false ≡ true
    → (slice_index_or old number false ≡ true) ⊎ NamesIt signal number
