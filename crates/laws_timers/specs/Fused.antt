-- The timers of a serial run, their fuses, and when these expire (Z.102: timer).
use Rattle.std.specs.Prelude.{◌≡◌, ◌<◌, ◌≤◌, ℕ, true, List, [], ◌∷◌, ◌++◌, All, Contains, Some}
use Rattle.port_model.specs.declared.inbox.entry.Fuse.{Fuse}
use Rattle.port_model.specs.History.{Expire, PortEvent, Set}
use Rattle.port_model.specs.declared.timer.ActiveTimer.{ActiveTimer}
use Rattle.port_model.specs.declared.timer.Phase.{Phase}
use Rattle.port_model.specs.declared.timer.Phase.TheVariants.{Running, Waiting}
use Rattle.port_model.specs.declared.values.timer_key.TimerKey.{TimerKey}
use Rattle.run_semantics.specs.Behaves.{AreBehaviours}
use Rattle.serial_order.specs.Execution.{Expired, Happening, Heard, Moved, Ticked}
use Rattle.serial_order.specs.RunState.{instance_at}
use Rattle.serial_order.specs.Laws.{AtEachEnd}
use Rattle.serial_order.specs.Report.{IsSerialReport}
use Rattle.serial_order.specs.Told.{Moment, first_moment, history_of, moment_after}
use Rattle.sdl_interp.specs.Instance.{InstanceValue}
use Rattle.run_record.specs.declared.record.Report.{Report}
use Rattle.sdl_script.specs.declared.script.ScriptLine.{ScriptLine}
use Rattle.sdl_system.specs.Behaviour.{Behaviour}
use Rattle.sdl_system.specs.System.{SystemValue}

-- ---- expiries

-- a fuse that expires is due by the clock's time
abbrev pub IsDue : Moment → Happening → Type 0
IsDue now (Moved who deeds) = Unit {0}
IsDue now (Expired fuse) = fuse.due ≤ now.clock
IsDue now (Heard line effects) = Unit {0}
IsDue now (Ticked time) = Unit {0}

-- so it is with all that happens from a moment on
abbrev pub AreDue : Moment → List Happening → Type 0
AreDue now [] = Unit {0}
AreDue now (first ∷ rest) = IsDue now first × AreDue (moment_after now first) rest

-- no expiry in the history of a port is before its due time
abbrev pub AreInTime : List PortEvent → Type 0
AreInTime [] = Unit {0}
AreInTime (Expire key arm due at ∷ rest) = (due ≤ at) × AreInTime rest
AreInTime (event ∷ rest) = AreInTime rest

-- Each fuse that expires is due by the clock's time as it was told.
abbrev pub ExpiriesAreDue : Type 0
ExpiriesAreDue = AtEachEnd (λ ps system lines happenings last. AreDue (first_moment system) happenings)

-- So is each expiry in the history of a port, also that of a timer whose time has come as it is set: the history has
-- the clock's time with it.
abbrev pub HistoriesAreInTime : Type 0
HistoriesAreInTime =
    AtEachEnd (λ ps system lines happenings last. (n : ℕ) → AreInTime (history_of system n happenings))

-- ---- timers that run

-- this is so of the fuse of a timer, where that runs: the one of this port with the key, and what the set gave
abbrev pub IsOfFuse : (Fuse → Type 0) → ℕ → TimerKey → Phase → Type 0
IsOfFuse Holds pid key (Running arm due) = Holds (record { pid = pid; key = key; arm = arm; due = due })
IsOfFuse Holds pid key (Waiting arm) = Unit {0}

-- so it is with the fuses of all timers that run in the port of this number
abbrev pub AreFused : (Fuse → Type 0) → ℕ → List ActiveTimer → Type 0
AreFused Holds pid timers = All (λ (timer : ActiveTimer). IsOfFuse Holds pid timer.key timer.phase) timers

-- Each timer that runs in the port of an instance has its fuse among those that wait.
abbrev pub RunningTimersHaveFuses : Type 0
RunningTimersHaveFuses =
    AtEachEnd (λ ps system lines happenings last. (n : ℕ) (i : InstanceValue) → instance_at last.instances n ≡ Some i
    → AreFused (Contains last.fuses) n i.owner.state.timers)

-- Behind a whole run each timer that still runs is due after its end.
abbrev pub NoTimerIsDue : Type 0
NoTimerIsDue =
    (ps : List Behaviour) (system : SystemValue) (lines : List ScriptLine) (limit : ℕ) (report : Report)
    → AreBehaviours system ps → (serial : IsSerialReport ps system lines limit report) → report.whole ≡ true
    → (n : ℕ) (i : InstanceValue) → instance_at serial.last.instances n ≡ Some i
    → AreFused (λ (fuse : Fuse). report.end < fuse.due) n i.owner.state.timers

-- ---- fuses that wait

-- the timer of the fuse was set in the history of its port, by the set of its number and for its time
abbrev pub WasSet : SystemValue → List Happening → Fuse → Type 0
WasSet system happenings fuse =
    Contains (history_of system fuse.pid happenings) (Set fuse.key fuse.due fuse.arm)

-- Each fuse that waits was made by a set of its instance.
abbrev pub FusesWereSet : Type 0
FusesWereSet = AtEachEnd (λ ps system lines happenings last. All (WasSet system happenings) last.fuses)

-- each expiry in the history of a port, behind what happened before, is of a set that stands before it
abbrev pub FollowSets : List PortEvent → List PortEvent → Type 0
FollowSets before [] = Unit {0}
FollowSets before (Expire key arm due at ∷ rest) =
    Contains before (Set key due arm) × FollowSets (before ++ Expire key arm due at ∷ []) rest
FollowSets before (event ∷ rest) = FollowSets (before ++ event ∷ []) rest

-- No timer expires that wasn't set, by a set of this number and for this time.
abbrev pub ExpiriesFollowSets : Type 0
ExpiriesFollowSets =
    AtEachEnd (λ ps system lines happenings last. (n : ℕ) → FollowSets [] (history_of system n happenings))
