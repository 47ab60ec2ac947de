-- What a timeline of a report is.
use Rattle.std.specs.Prelude.{◌≡◌, ℕ, ◌<◌, ◌≤◌, nat_eq, true, List, [], Some, slice_get, length}
use Rattle.std.specs.List.{AllByRecursion}
use Rattle.indexmap.specs.IndexSet.{contains}
use Rattle.run_record.specs.Record.{RecordValue}
use Rattle.view_timeline.specs.Did.{Did}
use Rattle.view_timeline.specs.Lives.{lives}
use Rattle.view_timeline.specs.Linked.{Each, IsBelow, IsByLiving, IsDrawn, IsElsePlain, IsInOrder, IsLookedUp, IsSentSo, IsTakenByArrow}
use Rattle.view_timeline.specs.Moves.{GoOn, NeverFall, done_by, moves_of, times}
use Rattle.view_timeline.specs.declared.channel.Channel.{Channel}
use Rattle.view_timeline.specs.declared.moves.Timeline.{Timeline}

-- all that was done, in the order of the moves
abbrev pub done : List RecordValue → Timeline → List Did
done records told = done_by records told.moves.items

-- Times never fall along the moves, and each is made by an instance that lives: a start comes after the create.
pub record IsForward (records : List RecordValue) (told : Timeline) : Type 0 where
  pub times : NeverFall (times (done records told))
  pub living : Each (IsByLiving records) [] (done records told) told.links.items

-- Each number below `arrows` is of an arrow, and no other number stands anywhere.
pub record AreArrows (records : List RecordValue) (told : Timeline) : Type 0 where
  pub drawn : (number : ℕ) → number < told.arrows → IsDrawn (done records told) told.links.items number
  pub below : AllByRecursion (IsBelow told.arrows) told.links.items

-- Each take of a signal of an instance has an arrow.
abbrev pub AllTakes : List RecordValue → Timeline → Type 0
AllTakes records told = Each (λ before. IsTakenByArrow) [] (done records told) told.links.items

-- Of one sender, receiver and name, arrows come in the same order at both ends, and none passes what waits.
abbrev pub AreInOrder : List RecordValue → Timeline → Type 0
AreInOrder records told = (channel : Channel) → IsInOrder (done records told) told.links.items channel

-- What was sent to an instance that lived then has an arrow or waits; what was sent to one that didn't is gone. What
-- waits for an instance that has ended is gone with it.
abbrev pub IsWaiting : List RecordValue → Timeline → Type 0
IsWaiting records told = Each (IsSentSo records (λ _. true)) [] (done records told) told.links.items

-- An output that names no Pid comes after the create of the instance to which it goes.
abbrev pub AreLookedUp : List RecordValue → Timeline → Type 0
AreLookedUp records told = Each (IsLookedUp records) [] (done records told) told.links.items

-- Who lives on.
abbrev pub AreLiving : List RecordValue → Timeline → Type 0
AreLiving records told = (number : ℕ) → contains nat_eq told.living number ≡ lives records (done records told) number

-- Nothing else has a link.
abbrev pub IsElseUnlinked : List RecordValue → Timeline → Type 0
IsElseUnlinked records told = Each (λ before. IsElsePlain) [] (done records told) told.links.items

-- ---- where not all can be told

-- The moves of a record that are told are its entries up to one of them.
pub record IsBegun (trace : RecordValue) (place : ℕ) (told : Timeline) : Type 0 where
  pub end : ℕ
  pub within : end ≤ length trace.events
  pub whole : GoOn 0 (moves_of place told.moves.items) end

abbrev pub AreBegun : List RecordValue → Timeline → Type 0
AreBegun records told = (place : ℕ) (trace : RecordValue) → slice_get records place ≡ Some trace
    → IsBegun trace place told
