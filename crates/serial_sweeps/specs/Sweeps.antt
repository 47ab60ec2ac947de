-- A run between two steps, as far as its sweeps see it; whose turn it is, and when the clock moves.
use Rattle.std.specs.Prelude.{◌≡◌, ◌+◌, ◌-◌, ◌<◌, ◌≤◌, ℕ, Bool, true, false, List, [], ◌∷◌, All, Contains, Option, None, Some, map}
use Rattle.port_model.specs.declared.inbox.entry.Fuse.{Fuse}
use Rattle.port_model.specs.Timers.{IsLeast, earlier}
use Rattle.sdl_script.specs.declared.script.ScriptLine.{ScriptLine}
use Rattle.serial_sweeps.specs.declared.instance_set.Made.{Made}
use Rattle.serial_sweeps.specs.declared.instance_set.Made.TheVariants as made
use Rattle.serial_sweeps.specs.declared.agenda.Agenda.{Agenda}
use Rattle.serial_sweeps.specs.declared.scheduler.Scheduler.{Scheduler}

-- The clock, in ticks, and whether all have rested for the first time. The sweep that goes on has the instances up to
-- the number `bound`, and goes on behind the number `turn`. So many transitions may still be made. The fuses that wait
-- for their time, in due order, and what is left of the script.
pub record Moment : Type 0 where
  pub clock : ℕ
  pub begun : Bool
  pub turn : ℕ
  pub bound : ℕ
  pub left : ℕ
  pub fuses : List Fuse
  pub script : List ScriptLine

-- what is due before this is to be done: nothing before the first time that all rest
abbrev pub until_of : Bool → ℕ → ℕ
until_of false clock = 0
until_of true clock = clock + 1

abbrev pub until : Moment → ℕ
until m = until_of m.begun m.clock

-- a moment, with the clock and the fuses of an agenda
abbrev pub at_agenda : Moment → Agenda → Moment
at_agenda m b = record m { clock = b.clock; fuses = b.fuses }

abbrev pub moment_of : Scheduler → Moment
moment_of s = record {
  clock = s.agenda.clock;
  begun = s.begun;
  turn = s.turn;
  bound = s.bound;
  left = s.left;
  fuses = s.agenda.fuses;
  script = s.script.now;
}

-- no fuse of these, and no line, has a time before this
abbrev pub IsNoFuseBefore : ℕ → List Fuse → Type 0
IsNoFuseBefore before fuses = All (λ (fuse : Fuse). before ≤ fuse.due) fuses

abbrev pub IsNoLineBefore : ℕ → List ScriptLine → Type 0
IsNoLineBefore before [] = Unit {0}
IsNoLineBefore before (line ∷ later) = before ≤ line.at

-- the time of the next line
abbrev pub next_line : List ScriptLine → Option ℕ
next_line [] = None
next_line (line ∷ later) = Some line.at

-- nothing is to be done before the next step
pub record IsNothingDue (m : Moment) : Type 0 where
  pub fuses : IsNoFuseBefore (until m) m.fuses
  pub lines : IsNoLineBefore (until m) m.script

-- steps leave the script and the clock as they are
pub record KeepsTime (old new : Scheduler) : Type 0 where
  pub script : new.script ≡ old.script
  pub clock : new.agenda.clock ≡ old.agenda.clock
  pub begun : new.begun ≡ old.begun

-- ---- whose turn it is

-- nobody with a number between these two may have something to do
abbrev pub NoneBetween : List ℕ → ℕ → ℕ → Type 0
NoneBetween ready after before = (number : ℕ) → Contains ready number → after < number → number < before → ⊥

-- By who may have something to do: the next one in this sweep, or the first in a new one, which has all whose numbers
-- were given.
pub data IsTurnBy (ready : List ℕ) (m : Moment) (given number : ℕ) : ℕ → Type 0 where
  goes_on : m.turn < number → number ≤ m.bound → NoneBetween ready m.turn number → IsTurnBy ready m given number m.bound
  begins_anew : NoneBetween ready m.turn (m.bound + 1) → NoneBetween ready 0 number → IsTurnBy ready m given number given

pub record IsNext (marked : List ℕ) (m : Moment) (given number bound : ℕ) : Type 0 where
  pub ready : Contains marked number
  pub turn : IsTurnBy marked m given number bound

-- a step may be made now, by the one with this number: nothing is due, and a transition is left
pub record IsTime (marked : List ℕ) (m : Moment) (given number bound : ℕ) : Type 0 where
  pub some : 0 < m.left
  pub nothing_due : IsNothingDue m
  pub turn : IsTurnBy marked m given number bound

-- the moment after a step: what was made in a turn goes on behind it, and a transition is taken off the limit
abbrev pub after : Made → ℕ → ℕ → Moment → Moment
after made.Nothing number bound m = m
after made.Failure number bound m = record m { turn = number; bound = bound }
after made.Transition number bound m = record m { turn = number; bound = bound; left = m.left - 1 }

-- ---- the clock

-- the next time at which something is due; where no line is left, up to the end of the script
pub record IsNextTime (last : ℕ) (m : Moment) (time : ℕ) : Type 0 where
  pub due : Option ℕ
  pub least : IsLeast (map (λ (fuse : Fuse). fuse.due) m.fuses) due
  pub is_next : earlier due (next_line m.script) ≡ Some time
  pub within : m.script ≡ [] → time ≤ last

-- the clock may move to this time
pub record IsTick (last : ℕ) (m : Moment) (time : ℕ) : Type 0 where
  pub some : 0 < m.left
  pub nothing_due : IsNothingDue m
  pub next : IsNextTime last m time

-- the moment after it: a new sweep begins, with all whose numbers were given
abbrev pub ticked : Moment → ℕ → ℕ → Moment
ticked m time given = record m { clock = time; begun = true; turn = 0; bound = given }
