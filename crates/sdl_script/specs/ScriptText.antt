-- What a text is as a script: its lines, and what they say.
use Rattle.std.specs.Prelude.{◌≡◌, ◌≢◌, ℕ, ◌+◌, ◌<◌, ◌≤◌, ◌==◌, Bool, true, not, IsTrue, Option, None, Some, ◌⊎◌, List, [], ◌∷◌, ◌++◌, length, slice_get, All}
use Rattle.std.specs.List.{list_all, filter_map}
use Rattle.std.specs.Option.{option_to_list}
use Rattle.port_model.specs.declared.values.item.SignalId.{SignalId}
use Rattle.port_model.specs.declared.values.pid.Pid.TheVariants.{Env, Of}
use Rattle.port_model.specs.declared.values.value.Value.{Value}
use Rattle.sdl_system.specs.Route.{reaches_process}
use Rattle.sdl_system.specs.System.{SystemValue, meaning_of}
use Rattle.sdl_system.specs.declared.id.ProcessId.{ProcessId}
use Rattle.sdl_system.specs.declared.route.Dest as dest
use Rattle.sdl_system.specs.declared.route.Dest.TheVariants as to
use Rattle.sdl_system.specs.declared.route.Source.TheVariants as from
use Rattle.sdl_system.specs.declared.signal.Signal.{Signal}
use Rattle.sdl_system.specs.declared.sort.Sort.{Sort}
use Rattle.sdl_script.specs.declared.fault.Fault.{Fault}
use Rattle.sdl_script.specs.declared.fault.Fault.TheVariants as fault
use Rattle.sdl_script.specs.declared.script.ScriptError.{ScriptError}
use Rattle.sdl_script.specs.declared.script.ScriptError.TheVariants.{Syntax, BackInTime, UnknownSignal, Arguments, Memory}
use Rattle.sdl_script.specs.declared.script.ScriptLine.{ScriptLine}
use Rattle.sdl_script.specs.declared.script.ScriptSignal.{ScriptSignal}
use Rattle.sdl_script.specs.declared.value.SpelledValue.{SpelledValue}
use Rattle.sdl_script.specs.Part.{is_space}
use Rattle.sdl_script.specs.Script.{IsScript, end_of}
use Rattle.sdl_script.specs.Spelling.{Receiver, Named, Numbered, Spelled, SpellsLine, IsNoSpelling}
use Rattle.sdl_script.specs.Value.{Fits}

-- ---- lines

-- any byte but LF
abbrev pub is_line_byte : ℕ → Bool
is_line_byte b = not (b == 10)

-- no LF stands among the bytes
abbrev pub IsInOneLine : List ℕ → Type 0
IsInOneLine bytes = IsTrue (list_all is_line_byte bytes)

abbrev pub EndsInReturn : List ℕ → Type 0
EndsInReturn bytes = (front : List ℕ) × (bytes ≡ front ++ 13 ∷ [])

-- the bytes without the CR at their end, if one stands there
abbrev pub DropsReturn : List ℕ → List ℕ → Type 0
DropsReturn bytes line = (bytes ≡ line ++ 13 ∷ []) ⊎ ((bytes ≡ line) × ¬ EndsInReturn line)

-- The text begins with this line, and behind its end comes the rest. LF ends a line, and a CR before that is dropped.
-- The last line may lack its LF, and then it isn't empty.
abbrev pub BeginsWith : List ℕ → List ℕ → List ℕ → Type 0
BeginsWith line text rest =
    IsInOneLine line
    × (((text ≡ line ++ 10 ∷ rest) × ¬ EndsInReturn line)
    ⊎ ((text ≡ line ++ 13 ∷ 10 ∷ rest)
    ⊎ ((text ≡ line) × (line ≢ []) × (rest ≡ []))))

-- a line says nothing: it begins with `#`, or has spaces alone
abbrev pub SaysNothing : List ℕ → Type 0
SaysNothing line = (slice_get line 0 ≡ Some 35) ⊎ IsTrue (list_all is_space line)

-- ---- what a spelled signal means in a system

-- the name is that of a signal of the system's own scope
abbrev pub NamesSignal : SystemValue → List ℕ → SignalId → Signal → Type 0
NamesSignal system name signal declared =
    (meaning_of system.own_signals name ≡ Some signal) × (slice_get system.signals signal.0 ≡ Some declared)

-- Without a receiver a path leads the signal from the environment to a process. A receiver's name is that of a process,
-- and a number may be any.
abbrev pub IsReached : SystemValue → SignalId → Option Receiver → Type 0
IsReached system signal None = reaches_process system.routes signal from.Env ≡ true
IsReached system signal (Some (Named name)) =
    (process : ProcessId) × (meaning_of system.process_names name ≡ Some process)
IsReached system signal (Some (Numbered number)) = Unit {0}

-- the receiver is this destination: the first process of its name, or the instance of its number
abbrev pub IsDestination : SystemValue → Option Receiver → dest.Dest → Type 0
IsDestination system None destination = destination ≡ to.Path
IsDestination system (Some (Named name)) destination =
    (process : ProcessId) × (meaning_of system.process_names name ≡ Some process) × (destination ≡ to.Process process)
IsDestination system (Some (Numbered number)) destination = (n : ℕ) × (number ≡ Some n) × (destination ≡ to.Pid (Of n))

-- the spelled values are these values, as many as the sorts and each of its sort
abbrev pub AreArguments : List SpelledValue → List Sort → List Value → Type 0
AreArguments [] [] [] = Unit {0}
AreArguments (spelled ∷ more) (sort ∷ sorts) (value ∷ values) = Fits spelled sort value × AreArguments more sorts values
AreArguments more sorts values = ⊥

abbrev pub AreNoArguments : List SpelledValue → List Sort → Type 0
AreNoArguments spelled sorts = (values : List Value) → ¬ AreArguments spelled sorts values

-- the environment sends this signal by the spelled one
abbrev pub IsSent : SystemValue → Spelled → ScriptSignal → Type 0
IsSent system spelled signal =
    (signal.item.sender ≡ Env)
    × (declared : Signal) × NamesSignal system spelled.name signal.item.name declared
    × IsReached system signal.item.name spelled.to × IsDestination system spelled.to signal.to
    × AreArguments spelled.values declared.sorts.items signal.item.values

-- no signal has the name, or the one that has it isn't reached
abbrev pub IsUnknown : SystemValue → Spelled → Type 0
IsUnknown system spelled =
    (signal : SignalId) (declared : Signal) → NamesSignal system spelled.name signal declared
    → ¬ IsReached system signal spelled.to

-- the signal is reached, and the number of the receiver doesn't fit, or the spelled values are no arguments
abbrev pub HasBadArguments : SystemValue → Spelled → Type 0
HasBadArguments system spelled =
    (signal : SignalId) × (declared : Signal) × NamesSignal system spelled.name signal declared
    × IsReached system signal spelled.to
    × ((spelled.to ≡ Some (Numbered None)) ⊎ AreNoArguments spelled.values declared.sorts.items)

abbrev pub Means : SystemValue → Option Spelled → Option ScriptSignal → Type 0
Means system None None = Unit {0}
Means system None (Some signal) = ⊥
Means system (Some spelled) None = ⊥
Means system (Some spelled) (Some signal) = IsSent system spelled signal

-- ---- readings

-- a line of the text, and what it says, if anything
pub record Reading : Type 0 where
  pub line : List ℕ
  pub said : Option ScriptLine

-- the line says that
abbrev pub Says : SystemValue → List ℕ → Option ScriptLine → Type 0
Says system line None = SaysNothing line
Says system line (Some said) =
    (signal : Option Spelled) × SpellsLine said.at signal line × Means system signal said.signal

abbrev pub IsRead : SystemValue → Reading → Type 0
IsRead system reading = Says system reading.line reading.said

-- the text is the lines of the readings up to the rest
abbrev pub AreLines : List Reading → List ℕ → List ℕ → Type 0
AreLines [] text rest = text ≡ rest
AreLines (reading ∷ readings) text rest = (m : List ℕ) × BeginsWith reading.line text m × AreLines readings m rest

-- what the lines say, in order
abbrev pub all_said : List Reading → List ScriptLine
all_said readings = filter_map (λ reading. reading.said) readings

-- the lines of the text up to the rest say this script
pub record SaysUpTo (system : SystemValue) (text rest : List ℕ) (readings : List Reading) (lines : List ScriptLine)
    : Type 0 where
  pub are_lines : AreLines readings text rest
  pub are_read : All (IsRead system) readings
  pub are_said : lines ≡ all_said readings

-- all lines of the text say this script
abbrev pub SaysScript : SystemValue → List ℕ → List ScriptLine → Type 0
SaysScript system text lines = (readings : List Reading) × SaysUpTo system text [] readings lines

-- ---- faults

-- what is wrong with a spelled signal
abbrev pub HasSignalFault : Fault → SystemValue → Spelled → Type 0
HasSignalFault fault.Syntax system spelled = ⊥
HasSignalFault fault.BackInTime system spelled = ⊥
HasSignalFault fault.UnknownSignal system spelled = IsUnknown system spelled
HasSignalFault fault.Arguments system spelled = HasBadArguments system spelled
HasSignalFault fault.Memory system spelled = Unit {0}

-- what is wrong with a line behind a script that ends at this time
abbrev pub HasFault : Fault → SystemValue → ℕ → List ℕ → Type 0
HasFault fault.Syntax system end line = ¬ SaysNothing line × IsNoSpelling line
HasFault fault.BackInTime system end line =
    (at : ℕ) × (signal : Option Spelled) × SpellsLine at signal line × (at < end)
HasFault fault.UnknownSignal system end line =
    (at : ℕ) × (spelled : Spelled) × SpellsLine at (Some spelled) line × (end ≤ at) × IsUnknown system spelled
HasFault fault.Arguments system end line =
    (at : ℕ) × (spelled : Spelled) × SpellsLine at (Some spelled) line × (end ≤ at) × HasBadArguments system spelled
HasFault fault.Memory system end line = Unit {0}

-- what the line says is added to the script
abbrev pub Adds : SystemValue → List ℕ → List ScriptLine → List ScriptLine → Type 0
Adds system line lines lines' =
    (said : Option ScriptLine) × Says system line said × (lines' ≡ lines ++ option_to_list said)

-- the lines before the one of this number say a script, and that line has the fault
abbrev pub FaultAt : ℕ → Fault → SystemValue → List ℕ → Type 0
FaultAt number fault system text =
    (before : List Reading) × (lines : List ScriptLine) × (line from rest : List ℕ)
    × SaysUpTo system text from before lines × IsScript system lines × (number ≡ length before + 1)
    × BeginsWith line from rest × HasFault fault system (end_of lines) line

abbrev pub Refuses : ScriptError → SystemValue → List ℕ → Type 0
Refuses (Syntax number) system text = FaultAt number fault.Syntax system text
Refuses (BackInTime number) system text = FaultAt number fault.BackInTime system text
Refuses (UnknownSignal number) system text = FaultAt number fault.UnknownSignal system text
Refuses (Arguments number) system text = FaultAt number fault.Arguments system text
Refuses Memory system text = Unit {0}

-- the refusal of a script with this fault in the line of that number
abbrev pub refusal : Fault → ℕ → ScriptError
refusal fault.Syntax number = Syntax number
refusal fault.BackInTime number = BackInTime number
refusal fault.UnknownSignal number = UnknownSignal number
refusal fault.Arguments number = Arguments number
refusal fault.Memory number = Memory
