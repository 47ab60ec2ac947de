-- Whose events a serial run has told, one after the other, as far as that is kept.
use Rattle.std.specs.Prelude.{◌≡◌, ◌-◌, ℕ, List, [], ◌∷◌, ◌++◌, Option, Some, length, replicate}
use Rattle.port_model.specs.KeptWords.{IsKeptOf, NotesAll}
use Rattle.run_record.specs.declared.record.Report.{Report}
use Rattle.run_semantics.specs.Effect.{events_of}
use Rattle.sdl_interp.specs.Instance.{InstanceValue}
use Rattle.sdl_script.specs.declared.script.ScriptLine.{ScriptLine}
use Rattle.sdl_system.specs.Behaviour.{Behaviour}
use Rattle.sdl_system.specs.System.{SystemValue}
use Rattle.serial_order.specs.Execution.{Expired, Happening, Heard, Moved, Ticked}
use Rattle.serial_order.specs.Report.{IsSerialReport}

-- The number of the instance that made a step, once for each event of it; 0 where a line of the script was heard.
abbrev pub teller_of : Happening → List ℕ
teller_of (Moved who deeds) = replicate (length (events_of deeds)) who.pid
teller_of (Expired fuse) = []
teller_of (Heard line effects) = 0 ∷ []
teller_of (Ticked time) = []

abbrev pub tellers_of : List Happening → List ℕ
tellers_of [] = []
tellers_of (first ∷ rest) = teller_of first ++ tellers_of rest

-- These are noted behind all others, or the list is given up.
abbrev pub NotesThese : Option (List ℕ) → List ℕ → Option (List ℕ) → Type 0
NotesThese old tellers new = NotesAll old (Some tellers) new

-- Of a turn of the instance with this number so many events are noted as it has more.
abbrev pub NotesTurn : ℕ → InstanceValue → InstanceValue → Option (List ℕ) → Option (List ℕ) → Type 0
NotesTurn number old new k l = NotesThese k (replicate (length new.events - length old.events) number) l

-- The report of a serial run, and whose events that run told, one after the other, if that is kept.
pub record IsSerialRun (ps : List Behaviour) (system : SystemValue) (lines : List ScriptLine) (limit : ℕ)
    (report : Report) (order : Option (List ℕ)) : Type 0 where
  pub serial : IsSerialReport ps system lines limit report
  pub kept : IsKeptOf order (tellers_of serial.happenings)
