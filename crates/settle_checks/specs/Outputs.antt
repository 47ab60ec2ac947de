-- How many signals a record sends to each instance, and whether as many were put (Z.102: output, create).
use Rattle.std.specs.Prelude.{◌≡◌, ◌==◌, ◌≤◌, ◌<◌, ◌+◌, ◌⊎◌, ℕ, Bool, true, false, List, [], ◌∷◌, ◌++◌, None, Some, IsSomeAnd, if◌then◌else◌, length, map, slice_index_or}
use Rattle.port_model.specs.declared.values.item.Item.{Item}
use Rattle.run_record.specs.Event as event
use Rattle.run_record.specs.Event.{Event}
use Rattle.run_record.specs.Record.{RecordValue}
use Rattle.run_semantics.specs.Sent.{sent_to}
use Rattle.sdl_system.specs.declared.id.ProcessId.{ProcessId}
use Rattle.sdl_system.specs.declared.route.Target.{Target}
use Rattle.sdl_system.specs.declared.route.Target.TheVariants.{Instance}
use Rattle.settle_checks.specs.declared.outputs.Outline.{Outline}
use Rattle.settle_checks.specs.declared.outputs.Outline.TheVariants.{Creates, Other, Sends}
use Rattle.settle_checks.specs.declared.outputs.Tally.{Tally}
use Rattle.settle_meaning.specs.Puts.{EndsWith, Heard, IsNamed, IsPutBy, IsPutByEnv, MayMiss, MayMissHeard, heard_by}

-- ---- what a tally asks of an event

-- whom an event sends a signal, or whom it creates
abbrev pub outline_in : Event → Outline
outline_in (event.Output signal to values (Instance number)) = Sends number
outline_in (event.Create process (Some number)) = Creates number
outline_in happened = Other

-- how many signals are sent to the instance `number`
abbrev pub sends_one : ℕ → Outline → ℕ
sends_one number (Sends to) = if to == number then 1 else 0
sends_one number outline = 0

abbrev pub sends_to : ℕ → List Outline → ℕ
sends_to number [] = 0
sends_to number (outline ∷ rest) = sends_one number outline + sends_to number rest

-- ---- a row of tallies

-- So many signals are sent to the instance `number`, and so many at least since it was created.
pub record IsTallied (outlines : List Outline) (number : ℕ) (tally : Tally) : Type 0 where
  pub all : tally.all ≡ sends_to number outlines
  pub since : (before later : List Outline) → outlines ≡ before ++ Creates number ∷ later
      → IsSomeAnd tally.since (λ count. sends_to number later ≤ count)

-- nothing is sent
abbrev pub no_tally : Tally
no_tally = record { all = 0; since = None }

-- so it is for each number in the row
abbrev pub AreTallied : List Outline → List Tally → Type 0
AreTallied outlines row =
    (number : ℕ) → number < length row → IsTallied outlines number (slice_index_or row number no_tally)

-- ---- whether as many were put

-- So many of the signals of one instance to another were put as were sent, unless the first may be missing; and as many
-- as were sent since the create, by the other's creator.
pub record IsEnough (Known : ℕ → Type 0) (from to : RecordValue) (put : ℕ) : Type 0 where
  pub allowed : (length (sent_to from.pid from.events to.pid) ≤ put) ⊎ MayMiss Known from to
  pub since : (before later : List Event) (process : ProcessId)
      → from.events ≡ before ++ event.Create process (Some to.pid) ∷ later
      → length (sent_to from.pid later to.pid) ≤ put

-- each number for which the row says so is named by a signal of the script
abbrev pub AreNamed : List Heard → List Bool → Type 0
AreNamed heard named = (number : ℕ) → slice_index_or named number false ≡ true → IsNamed heard number

-- Where enough was put, and what was put ends what was sent, it is what may have been put.
abbrev pub EnoughIsPut : Type 0
EnoughIsPut =
    (heard : List Heard) (from to : RecordValue) (put : List Item)
    → EndsWith (sent_to from.pid from.events to.pid) put → IsEnough (IsNamed heard) from to (length put)
    → IsPutBy (IsNamed heard) from to put

-- ---- the script

-- whom a signal of the script is sent, by where it went
abbrev pub outline_to : Target → Outline
outline_to (Instance number) = Sends number
outline_to target = Other

abbrev pub targets_of : List Heard → List Target
targets_of heard = map (λ (one : Heard). one.target) heard

-- so many of the signals of the script to an instance were put as were sent, unless the first may be missing
abbrev pub IsEnoughHeard : (ℕ → Type 0) → List Heard → RecordValue → ℕ → Type 0
IsEnoughHeard Known heard to put = (length (heard_by heard to.pid) ≤ put) ⊎ MayMissHeard Known to

-- Where enough of them was put, and what was put ends what was sent, it is what may have been put.
abbrev pub EnoughIsHeard : Type 0
EnoughIsHeard =
    (heard : List Heard) (to : RecordValue) (put : List Item) → EndsWith (heard_by heard to.pid) put
    → IsEnoughHeard (IsNamed heard) heard to (length put) → IsPutByEnv (IsNamed heard) heard to put
