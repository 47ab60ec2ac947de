-- The entries of the table while it is made.
use Rattle.std.specs.Prelude.{◌≡◌, ◌==◌, ◌<◌, ◌↔◌, ◌⊎◌, ℕ, true, List, Some, filter, length, map, slice_get}
use Rattle.std.specs.Int.{bit_at}
use Rattle.std.specs.List.{Contains}
use Rattle.port_model.specs.declared.values.item.SignalId.{SignalId}
use Rattle.sdl_system.specs.Route.{is_receiver}
use Rattle.sdl_system.specs.declared.id.ProcessId.{ProcessId}
use Rattle.sdl_system.specs.declared.route.Reach.{Reach}
use Rattle.sdl_system.specs.declared.route.ReceiversId.{ReceiversId}
use Rattle.sdl_system.specs.declared.route.Source as sender
use Rattle.sdl_system.specs.declared.route.Source.TheVariants as from
use Rattle.build_routes.specs.Arrivals.{ArrivesAt, Tells}
use Rattle.build_routes.specs.Paths.{Path}
use Rattle.build_routes.specs.Table.{AreReceivers, IsAscending}
use Rattle.build_routes.specs.declared.arrivals.Arrivals.{Arrivals}
use Rattle.build_routes.specs.declared.network.joined.End as end
use Rattle.build_routes.specs.declared.network.joined.End.TheVariants as at
use Rattle.build_routes.specs.declared.network.joined.Network.{Network}
use Rattle.build_routes.specs.declared.network.joined.Process.{Process}
use Rattle.build_routes.specs.declared.network.joined.Source.{Source}
use Rattle.build_routes.specs.declared.known.Known.{Known}
use Rattle.build_routes.specs.declared.receiver.Receiver.{Receiver}
use Rattle.build_routes.specs.declared.word.Word.{Word}

-- each list has kept its number
abbrev pub Keeps : List (List ProcessId) → List (List ProcessId) → Type 0
Keeps old new = (n : ℕ) (list : List ProcessId) → slice_get old n ≡ Some list → slice_get new n ≡ Some list

-- who sends from an end
abbrev pub sender_at : end.End → sender.Source
sender_at at.Env = from.Env
sender_at (at.Process process) = from.Process process
sender_at (at.Block block) = from.Env

-- the list has, of the first so many processes, those that the signal at this place reaches, and may be the sender too
pub record IsListed (arrivals : Arrivals) (place : ℕ) (source : Source) (count : ℕ) (list : List ProcessId) : Type 0 where
  pub reached : (p : ProcessId) → p.0 < count → ArrivesAt arrivals place p → Contains list p
  pub just : (p : ProcessId) → Contains list p → (p.0 < count) × (ArrivesAt arrivals place p ⊎ (source.end ≡ at.Process p))
  pub ordered : IsAscending list

-- the processes of these whose mask has the place
abbrev pub listed_at : ℕ → List Receiver → List ProcessId
listed_at place receivers = map (λ receiver. receiver.process) (filter (λ receiver. bit_at receiver.signals place == 1) receivers)

-- the numbers of the lists of processes, for each of the 64 places
abbrev pub AreNumbers : List (List ProcessId) → List Receiver → List ReceiversId → Type 0
AreNumbers lists receivers numbers = (place : ℕ) → place < 64
    → (number : ReceiversId) × (slice_get numbers place ≡ Some number) × (slice_get lists number.0 ≡ Some (listed_at place receivers))

-- what is known of the lists
abbrev pub AreKnown : List (List ProcessId) → List Known → Type 0
AreKnown lists known = (n : ℕ) (one : Known) → slice_get known n ≡ Some one → AreNumbers lists one.receivers.items one.numbers.items

-- it tells to whom paths lead the 64 signals of this number from the source, and the lists of receivers
pub record WordTells (network : Network) (source : Source) (number : ℕ) (lists : List (List ProcessId)) (word : Word) : Type 0 where
  pub tells : Tells network source number word.arrivals
  pub numbers : (place : ℕ) → place < 64 → (number : ReceiversId) × (list : List ProcessId) × (slice_get word.numbers.items place ≡ Some number)
      × (slice_get lists number.0 ≡ Some list) × IsListed word.arrivals place source (length network.processes.items) list

-- the entry tells where paths lead the signal from the source
pub record IsEntry (network : Network) (source : Source) (lists : List (List ProcessId)) (signal : SignalId) (reach : Reach) : Type 0 where
  pub list : List ProcessId
  pub stands : slice_get lists reach.receivers.0 ≡ Some list
  pub receivers : AreReceivers network signal source (filter (is_receiver reach.itself (sender_at source.end)) list)
  pub env : (reach.env ≡ true) ↔ Path network signal source at.Env

-- so do the entries of a row, of the first so many signals
pub record IsRow (network : Network) (source : Source) (lists : List (List ProcessId)) (count : ℕ) (row : List Reach) : Type 0 where
  pub size : length row ≡ count
  pub each : (n : ℕ) (reach : Reach) → slice_get row n ≡ Some reach → IsEntry network source lists (record { 0 = n }) reach

-- and the rows of the first so many processes
pub record AreRows (network : Network) (lists : List (List ProcessId)) (count : ℕ) (rows : List (List Reach)) : Type 0 where
  pub size : length rows ≡ count
  pub each : (n : ℕ) (is : Process) (row : List Reach) → slice_get network.processes.items n ≡ Some is → slice_get rows n ≡ Some row
      → IsRow network (record { end = at.Process (record { 0 = n }); scope = is.scope }) lists network.signals row
