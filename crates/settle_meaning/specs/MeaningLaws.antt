-- Laws of runs and histories that settle what a report says.
use Rattle.std.specs.Prelude.{◌≡◌, ℕ, true, false, List, [], ◌∷◌, ◌++◌, count_by, length}
use Rattle.port_model.specs.Calls.{after_draws}
use Rattle.port_model.specs.Ends.{is_signal}
use Rattle.port_model.specs.declared.inbox.placed.Placed.{Placed}
use Rattle.port_model.specs.History.{IsLegal, PortEvent, Take}
use Rattle.port_model.specs.Port.{PortState, empty_port}
use Rattle.port_model.specs.declared.selection.Class.{Class}
use Rattle.port_model.specs.declared.taken.Taken.TheVariants.{Nothing}
use Rattle.run_record.specs.declared.evaluation.identity.Identity.{Identity}
use Rattle.run_record.specs.declared.evaluation.store.Store.{Store}
use Rattle.run_record.specs.Event as event
use Rattle.run_record.specs.declared.record.Report.{Report}
use Rattle.run_semantics.specs.ControlPoint.{Closed, ControlPoint, Definition, In}
use Rattle.run_semantics.specs.Effect.{Deed}
use Rattle.run_semantics.specs.Goes.{drawn_as}
use Rattle.run_semantics.specs.Leads.{IsQuiet}
use Rattle.run_semantics.specs.Runs.{Runs, outside_of}
use Rattle.sdl_script.specs.declared.script.ScriptLine.{ScriptLine}
use Rattle.sdl_system.specs.Behaviour.{Behaviour}
use Rattle.sdl_system.specs.System.{SystemValue}
use Rattle.sdl_system.specs.declared.id.StateId.{StateId}
use Rattle.settle_meaning.specs.Closed.{FoundNothing}
use Rattle.settle_meaning.specs.Histories.{HaveSets, puts_of}
use Rattle.settle_meaning.specs.Report.{IsSettled, IsWholeOrCut}

-- ---- runs

-- What is drawn after a run is heard: it is a run still, on the history with what was drawn, wherever it came to.
abbrev pub RunsHearWhatIsDrawn : Type 0
RunsHearWhatIsDrawn =
    (d : Definition) (who : Identity) (from to : ControlPoint) (s t : Store) (q r : PortState) (deeds : List Deed)
    (history : List PortEvent) (pid : ℕ) (news : List Placed) → Runs d who from s q deeds history to t r
    → Runs d who from s q deeds (history ++ drawn_as pid news) to t (after_draws pid r news)

-- the deed by which the record of an instance closes that rests in this state
abbrev pub rest_deed : StateId → Deed
rest_deed n = record { event = event.Rest n; calls = []; effects = [] }

-- Where an instance rests and no signal is drawn any more, it rests for good: with the rest at the end its record is a
-- run, and a take finds nothing after all that was put.
pub record Rested (d : Definition) (who : Identity) (from : ControlPoint) (s : Store) (q : PortState)
    (deeds : List Deed) (history : List PortEvent) (t : Store) (r : PortState) : Type 0 where
  pub runs : Runs d who from s q deeds history Closed t r
  pub found : FoundNothing history

abbrev pub RestsAreForGood : Type 0
RestsAreForGood =
    (d : Definition) (who : Identity) (from : ControlPoint) (n : StateId) (s t : Store) (q r : PortState)
    (deeds : List Deed) (history : List PortEvent) (classes : List Class) (pid : ℕ) (news : List Placed)
    → Runs d who from s q deeds history (In n) t r → r.alive ≡ true → IsQuiet d who r n t classes
    → puts_of (drawn_as pid news) ≡ []
    → Rested d who from s q (deeds ++ rest_deed n ∷ []) (history ++ Take classes Nothing ∷ drawn_as pid news) t
    (after_draws pid r news)

-- ---- what is drawn

-- If no more signals are drawn in the end than by some moment, none was put in between.
abbrev pub LateIsNothing : Type 0
LateIsNothing =
    (pid : ℕ) (drawn news : List Placed) → count_by is_signal (drawn ++ news) ≡ count_by is_signal drawn
    → puts_of (drawn_as pid news) ≡ []

-- If in a port that lives no more waits after some draws than before, they have changed nothing, and put no signal.
abbrev pub QuietDrawsChangeNothing : Type 0
QuietDrawsChangeNothing =
    (pid : ℕ) (port : PortState) (news : List Placed) → port.alive ≡ true
    → length (after_draws pid port news).waiting ≡ length port.waiting
    → (after_draws pid port news ≡ port) × (puts_of (drawn_as pid news) ≡ [])

-- A port that has stopped, and in which no timer is active, stays as it is, whatever is drawn.
abbrev pub StoppedStays : Type 0
StoppedStays =
    (pid : ℕ) (port : PortState) (news : List Placed) → port.alive ≡ false → port.timers ≡ []
    → after_draws pid port news ≡ port

-- ---- histories

-- In a legal history each expiry is of a timer that was set before it, or does nothing.
abbrev pub ExpiriesHaveSets : Type 0
ExpiriesHaveSets =
    (history : List PortEvent) (port : PortState) → IsLegal empty_port history port → HaveSets history

-- Signals come from outside: an owner's calls put none.
abbrev pub PutsComeFromOutside : Type 0
PutsComeFromOutside = (history : List PortEvent) → puts_of history ≡ puts_of (outside_of history)

-- ---- reports

-- A settled report is whole or cut.
abbrev pub SettledIsWholeOrCut : Type 0
SettledIsWholeOrCut =
    (ps : List Behaviour) (system : SystemValue) (lines : List ScriptLine) (limit : ℕ) (report : Report)
    → IsSettled ps system lines limit report → IsWholeOrCut ps system lines limit report
