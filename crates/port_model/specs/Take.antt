-- What a take gives, and what it leaves.
use Rattle.std.specs.Prelude.{◌≡◌, ◌≢◌, ◌⊎◌, List, ◌∷◌, ◌++◌, All}
use Rattle.port_model.specs.declared.selection.Class.{Class}
use Rattle.port_model.specs.declared.selection.Class.TheVariants as class
use Rattle.port_model.specs.declared.values.item.SignalId.{SignalId}
use Rattle.port_model.specs.declared.got.Got.{Got}
use Rattle.port_model.specs.declared.got.Got.TheVariants.{Signal, Timer}
use Rattle.port_model.specs.declared.taken.Taken.{Taken}
use Rattle.port_model.specs.declared.taken.Taken.TheVariants.{Consumed, Discarded, Nothing}
use Rattle.port_model.specs.Port.{PortState}
use Rattle.port_model.specs.Selection.{class_of}
use Rattle.port_model.specs.Timers.{after_taking}

-- the name of what waits, a signal's or a timer's
abbrev pub name_of : Got → SignalId
name_of (Signal item) = item.name
name_of (Timer key) = key.name

-- an entry has this class
abbrev pub HasClass : Class → List Class → Got → Type 0
HasClass c classes got = class_of classes (name_of got) ≡ c

-- no priority input names the entry
abbrev pub IsOrdinary : List Class → Got → Type 0
IsOrdinary classes got = class_of classes (name_of got) ≢ class.Priority

-- a save names the entry
abbrev pub IsSaved : List Class → Got → Type 0
IsSaved classes got = class_of classes (name_of got) ≡ class.Saved

-- The first entry that isn't passed over is taken out, and with a timer's signal the timer. All else stays, in its order.
pub record TakesFirst (Passed : Got → Type 0) (old : PortState) (got : Got) (new : PortState) : Type 0 where
  pub before : List Got
  pub after : List Got
  pub was : old.waiting ≡ before ++ got ∷ after
  pub passed : All Passed before
  pub now : new ≡ record old { waiting = before ++ after; timers = after_taking got old.timers }

-- Take (Z.102, priority input, input, save): the first entry of a priority input is consumed, if there is one. Else the first
-- that isn't saved is taken: consumed where an input names it, else discarded. Where all are saved, nothing is taken.
abbrev pub Takes : List Class → PortState → Taken → PortState → Type 0
Takes classes old (Consumed got) new =
    (TakesFirst (IsOrdinary classes) old got new × HasClass class.Priority classes got)
    ⊎ (All (IsOrdinary classes) old.waiting × TakesFirst (IsSaved classes) old got new × HasClass class.Input classes got)
Takes classes old (Discarded got) new =
    All (IsOrdinary classes) old.waiting × TakesFirst (IsSaved classes) old got new × HasClass class.Discard classes got
Takes classes old Nothing new = All (IsSaved classes) old.waiting × (new ≡ old)

-- what a take gives of an entry that no priority input names and no save
abbrev pub taken_as : Class → Got → Taken
taken_as class.Discard got = Discarded got
taken_as c got = Consumed got
