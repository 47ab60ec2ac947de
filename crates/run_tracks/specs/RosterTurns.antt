-- In which order who lives changes, and is looked up.
use Rattle.std.specs.Prelude.{◌≡◌, ◌==◌, ◌+◌, ◌-◌, ℕ, nat_le, List, None, Option, Some, if◌then◌else◌, slice_index}
use Rattle.run_record.specs.declared.entry.Entry.{Entry}
use Rattle.run_record.specs.declared.entry.Entry.TheVariants as entry
use Rattle.run_tracks.specs.ByNumber.{counted, lowered, raised}
use Rattle.run_tracks.specs.Waiting.{WaitingList, waiting, with_waiting}
use Rattle.run_tracks.specs.declared.roster_turns.TheConstants.{MOST_VERSIONS}
use Rattle.run_tracks.specs.declared.roster_turns.Turn.{Turn}
use Rattle.run_tracks.specs.declared.roster_turns.Turn.TheVariants as turn
use Rattle.sdl_system.specs.declared.route.Dest.{Dest}
use Rattle.sdl_system.specs.declared.route.Dest.TheVariants as to

-- So many changes are told, and of each version so many look-ups are still to be told. A record waits until so many
-- changes are told.
pub record TurnsState : Type 0 where
  pub told : ℕ
  pub looks : List ℕ
  pub waiting : WaitingList

-- ---- what an event does to the roster

-- an output is looked up, unless it names a Pid
abbrev pub turn_to : Dest → Option Turn
turn_to to.Path = Some turn.Look
turn_to (to.Process process) = Some turn.Look
turn_to (to.Pid pid) = None

-- a create looks who lives where it makes nobody; else it changes that, and so does an end
abbrev pub turn_of : Entry → Option Turn
turn_of (entry.Output signal to target) = turn_to to
turn_of (entry.Create process None) = Some turn.Look
turn_of (entry.Create process (Some number)) = Some turn.Change
turn_of entry.Stop = Some turn.Change
turn_of (entry.Failed why) = Some turn.Change
turn_of (entry.FailedAt at why) = Some turn.Change
turn_of other = None

-- ---- whose turn it is

-- so many changes come before an event of a version: a look-up sees it, a change makes it
abbrev pub needed : Turn → ℕ → Option ℕ
needed turn.Look version = Some version
needed turn.Change version = if version == 0 then None else Some (version - 1)

-- A look-up comes where its version is there. A change comes where it is the next, and nobody looks before it.
abbrev pub IsTurn : TurnsState → Turn → ℕ → Type 0
IsTurn s turn.Look version = version ≡ s.told
IsTurn s turn.Change version = (needed turn.Change version ≡ Some s.told) × (slice_index s.looks s.told ≡ 0)

-- ---- what changes

abbrev pub with_look : TurnsState → ℕ → TurnsState
with_look s version = if nat_le version MOST_VERSIONS then record s { looks = raised s.looks version } else s

abbrev pub after_turn : Turn → TurnsState → TurnsState
after_turn turn.Look s = record s { looks = lowered s.looks s.told }
after_turn turn.Change s = record s { told = counted s.told }

-- those who wait for the next change, or behind one, may go on
abbrev pub IsOpenAfter : Turn → TurnsState → Type 0
IsOpenAfter turn.Look s = slice_index s.looks s.told ≡ 0
IsOpenAfter turn.Change s = Unit {0}

abbrev pub with_wait : Option ℕ → ℕ → TurnsState → TurnsState
with_wait None number s = s
with_wait (Some changes) number s = record s { waiting = with_waiting (waiting changes number) s.waiting }
