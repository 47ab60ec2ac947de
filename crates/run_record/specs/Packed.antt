-- How a record keeps its events: in entries, and the values of all of them in a table.
use Rattle.std.specs.Prelude.{◌≡◌, ℕ, Bool, true, false, ◌==◌, ◌+◌, ◌*◌, ◌-◌, ◌≤◌, List, [], ◌∷◌, ◌++◌, length, take, drop, None, Option, Some, option_to_list, if◌then◌else◌}
use Rattle.port_model.specs.declared.values.pid.Pid.TheVariants as who
use Rattle.port_model.specs.declared.values.value.Value as value
use Rattle.port_model.specs.declared.values.value.Value.TheVariants as sort
use Rattle.sdl_system.specs.declared.route.Dest.TheVariants as to
use Rattle.sdl_system.specs.declared.route.Target as reached
use Rattle.sdl_system.specs.declared.route.Target.TheVariants as target
use Rattle.run_record.specs.Entry.{event_of}
use Rattle.run_record.specs.Event as event
use Rattle.run_record.specs.declared.entry.Entry as entry
use Rattle.run_record.specs.declared.entry.Entry.TheVariants as kept
use Rattle.run_record.specs.declared.entry.Origin as origin
use Rattle.run_record.specs.declared.entry.Origin.TheVariants as from
use Rattle.run_record.specs.declared.packed.Packed as packed
use Rattle.run_record.specs.declared.packed.Packed.TheVariants as pack
use Rattle.run_record.specs.declared.parts.OriginKind as origin_kind
use Rattle.run_record.specs.declared.parts.OriginKind.TheVariants as sent
use Rattle.run_record.specs.declared.parts.TargetKind as target_kind
use Rattle.run_record.specs.declared.parts.TargetKind.TheVariants as hit

-- ---- enums in two parts

abbrev pub origin_of : origin_kind.OriginKind → ℕ → origin.Origin
origin_of sent.Timer number = from.Timer
origin_of sent.Null number = from.Null
origin_of sent.Env number = from.Env
origin_of sent.Instance number = from.Instance number

abbrev pub target_of : target_kind.TargetKind → ℕ → reached.Target
target_of hit.Instance number = target.Instance number
target_of hit.Env number = target.Env
target_of hit.Null number = target.Null
target_of hit.Nobody number = target.Nobody

abbrev pub instance_of : reached.Target → Option ℕ
instance_of (target.Instance number) = Some number
instance_of other = None

-- ---- one entry

-- how many values are the entry's own
abbrev pub count_of : packed.Packed → ℕ
count_of (pack.Consumed origin count name from) = count
count_of (pack.Prior origin count name from) = count
count_of (pack.Discarded origin count name from) = count
count_of (pack.OutputOnPath reached count signal target) = count
count_of (pack.OutputToProcess reached count signal process target) = count
count_of (pack.OutputToNull reached count signal target) = count
count_of (pack.OutputToEnv reached count signal target) = count
count_of (pack.OutputToInstance reached count signal pid target) = count
count_of (pack.Set count timer due) = count
count_of (pack.Reset count timer) = count
count_of _ = 0

-- an entry is an event, or the time of the events from there on
abbrev pub is_event : packed.Packed → Bool
is_event (pack.Time at) = false
is_event _ = true

abbrev pub time_after : ℕ → packed.Packed → ℕ
time_after time (pack.Time at) = at
time_after time _ = time

-- what it says at this time, without its values
abbrev pub entry_at : ℕ → packed.Packed → Option entry.Entry
entry_at time (pack.Time at) = None
entry_at time pack.Start = Some (kept.Start time)
entry_at time (pack.Consumed origin count name from) =
    Some (kept.Consumed time (record { name = name; origin = origin_of origin from }))
entry_at time (pack.Prior origin count name from) =
    Some (kept.Prior time (record { name = name; origin = origin_of origin from }))
entry_at time (pack.Discarded origin count name from) =
    Some (kept.Discarded time (record { name = name; origin = origin_of origin from }))
entry_at time (pack.Provided number) = Some (kept.Provided time number)
entry_at time (pack.FailedAt why) = Some (kept.FailedAt time why)
entry_at time (pack.TaskInt variable value) = Some (kept.Task variable (sort.Int value))
entry_at time (pack.TaskTime variable value) = Some (kept.Task variable (sort.Time value))
entry_at time (pack.TaskDuration variable value) = Some (kept.Task variable (sort.Duration value))
entry_at time (pack.TaskBool value variable) = Some (kept.Task variable (sort.Bool value))
entry_at time (pack.TaskPid variable value) = Some (kept.Task variable (sort.Pid value))
entry_at time (pack.OutputOnPath reached count signal target) =
    Some (kept.Output signal to.Path (target_of reached target))
entry_at time (pack.OutputToProcess reached count signal process target) =
    Some (kept.Output signal (to.Process process) (target_of reached target))
entry_at time (pack.OutputToNull reached count signal target) =
    Some (kept.Output signal (to.Pid who.Null) (target_of reached target))
entry_at time (pack.OutputToEnv reached count signal target) =
    Some (kept.Output signal (to.Pid who.Env) (target_of reached target))
entry_at time (pack.OutputToInstance reached count signal pid target) =
    Some (kept.Output signal (to.Pid (who.Of pid)) (target_of reached target))
entry_at time (pack.Set count timer due) = Some (kept.Set timer due)
entry_at time (pack.Reset count timer) = Some (kept.Reset timer)
entry_at time (pack.Create process pid) = Some (kept.Create process pid)
entry_at time (pack.NextState state) = Some (kept.NextState state)
entry_at time pack.Stop = Some kept.Stop
entry_at time (pack.Failed why) = Some (kept.Failed why)
entry_at time (pack.Rest state) = Some (kept.Rest state)
entry_at time (pack.Cut state) = Some (kept.Cut state)

-- the event of that with these values
abbrev pub told_by : Option entry.Entry → List value.Value → List event.Event
told_by None values = []
told_by (Some entry) values = event_of entry values ∷ []

-- the event that an entry is at this time, with these values; none if it is a time
abbrev pub told_at : ℕ → packed.Packed → List value.Value → List event.Event
told_at time one values = told_by (entry_at time one) values

-- ---- all entries

-- how many values they have
abbrev pub counted : List packed.Packed → ℕ
counted [] = 0
counted (one ∷ rest) = count_of one + counted rest

-- the time after all of them, if it was this one before
abbrev pub time_in : ℕ → List packed.Packed → ℕ
time_in time [] = time
time_in time (one ∷ rest) = time_in (time_after time one) rest

-- none of them is a time
abbrev pub IsOfOneTime : List packed.Packed → Type 0
IsOfOneTime entries = (time : ℕ) → time_in time entries ≡ time

-- their events from this time on; the values of all stand in one list, in their order
abbrev pub told : ℕ → List packed.Packed → List value.Value → List event.Event
told time [] values = []
told time (one ∷ rest) values =
    told_at time one (take (count_of one) values)
    ++ told (time_after time one) rest (drop (count_of one) values)

-- whether they end with an event
abbrev pub ends_in_event : List packed.Packed → Bool
ends_in_event [] = true
ends_in_event (one ∷ []) = is_event one
ends_in_event (one ∷ next ∷ rest) = ends_in_event (next ∷ rest)

-- the entry of a time that comes after this one: none if it's the same
abbrev pub time_to : ℕ → ℕ → List packed.Packed
time_to time at = if at == time then [] else pack.Time at ∷ []

-- What is known of the parts of a record: the entries have just these values; the time, the number of events and the
-- room are theirs. An event may come with a time, so it takes two entries.
pub record IsPacked (entries : List packed.Packed) (values : List value.Value) (time len most values_room : ℕ)
    (entries_capacity values_capacity : ℕ) : Type 0 where
  pub counts : counted entries ≡ length values
  pub time_is : time_in 0 entries ≡ time
  pub ends : ends_in_event entries ≡ true
  pub len_is : length (told 0 entries values) ≡ len
  pub within : len ≤ most
  pub entries_fit : length entries + 2 * (most - len) ≤ entries_capacity
  pub values_fit : length values + values_room ≤ values_capacity

-- ---- whom outputs reach

-- the instance to which an entry is an output
abbrev pub receiver_in : packed.Packed → Option ℕ
receiver_in (pack.OutputOnPath reached count signal target) = instance_of (target_of reached target)
receiver_in (pack.OutputToProcess reached count signal process target) = instance_of (target_of reached target)
receiver_in (pack.OutputToNull reached count signal target) = instance_of (target_of reached target)
receiver_in (pack.OutputToEnv reached count signal target) = instance_of (target_of reached target)
receiver_in (pack.OutputToInstance reached count signal pid target) = instance_of (target_of reached target)
receiver_in _ = None

abbrev pub receivers_in : List packed.Packed → List ℕ
receivers_in [] = []
receivers_in (one ∷ rest) = option_to_list (receiver_in one) ++ receivers_in rest

-- how many of the entries are events
abbrev pub events_in : List packed.Packed → ℕ
events_in [] = 0
events_in (one ∷ rest) = (if is_event one then 1 else 0) + events_in rest
