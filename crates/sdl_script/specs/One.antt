-- What is one: the spelling of a line, what it means in a system, and the script that a text says.
use Rattle.std.specs.Prelude.{◌≡◌, ◌≢◌, ℕ, List, Option}
use Rattle.sdl_system.specs.System.{SystemValue}
use Rattle.sdl_script.specs.declared.script.ScriptError.{ScriptError}
use Rattle.sdl_script.specs.declared.script.ScriptError.TheVariants.{Memory}
use Rattle.sdl_script.specs.declared.script.ScriptLine.{ScriptLine}
use Rattle.sdl_script.specs.declared.script.ScriptSignal.{ScriptSignal}
use Rattle.sdl_script.specs.Script.{IsScript}
use Rattle.sdl_script.specs.ScriptText.{BeginsWith, Means, Refuses, Says, SaysScript}
use Rattle.sdl_script.specs.Spelling.{Spelled, SpellsLine}

-- Two spellings of a line have the same time, and the same signal or none.
abbrev pub OneSpelling : Type 0
OneSpelling =
    (line : List ℕ) (at other_at : ℕ) (signal other : Option Spelled)
    → SpellsLine at signal line → SpellsLine other_at other line → (at ≡ other_at) × (signal ≡ other)

-- Two signals that a spelled one means in a system are the same.
abbrev pub OneMeaning : Type 0
OneMeaning =
    (system : SystemValue) (spelled : Option Spelled) (signal other : Option ScriptSignal)
    → Means system spelled signal → Means system spelled other → signal ≡ other

-- Two first lines of a text are the same, and so is what comes behind.
abbrev pub OneLine : Type 0
OneLine =
    (text line rest other behind : List ℕ)
    → BeginsWith line text rest → BeginsWith other text behind → (line ≡ other) × (rest ≡ behind)

-- What a line says in a system is the same, or both times nothing.
abbrev pub OneSaying : Type 0
OneSaying =
    (system : SystemValue) (line : List ℕ) (said other : Option ScriptLine)
    → Says system line said → Says system line other → said ≡ other

-- Two scripts that a text says are the same.
abbrev pub OneScript : Type 0
OneScript =
    (system : SystemValue) (text : List ℕ) (lines others : List ScriptLine)
    → SaysScript system text lines → SaysScript system text others → lines ≡ others

-- A text that says a script for the system is refused for lack of memory alone.
abbrev pub NoFault : Type 0
NoFault =
    (system : SystemValue) (text : List ℕ) (lines : List ScriptLine) (error : ScriptError)
    → SaysScript system text lines → IsScript system lines → Refuses error system text → error ≡ Memory

-- Two refusals of a text, neither of them for lack of memory, are the same.
abbrev pub OneRefusal : Type 0
OneRefusal =
    (system : SystemValue) (text : List ℕ) (error other : ScriptError)
    → Refuses error system text → Refuses other system text → error ≢ Memory → other ≢ Memory → error ≡ other
