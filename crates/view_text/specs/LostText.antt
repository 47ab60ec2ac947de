-- Signals of the script that are lost, as text of Z.120.
use Rattle.std.specs.Prelude.{ℕ, List, [], ◌∷◌, ◌++◌, Option, None, Some, codes}
use Rattle.std.specs.Fmt.{decimal}
use Rattle.sdl_system.specs.System.{SystemValue}
use Rattle.sdl_system.specs.declared.route.Target as target
use Rattle.sdl_system.specs.declared.route.Target.TheVariants as reached
use Rattle.run_record.specs.Record.{RecordValue}
use Rattle.view_text.specs.EventText.{message_text, party_name}
use Rattle.view_text.specs.Fate.{fate_word}
use Rattle.view_text.specs.Lost.{lost_fate}
use Rattle.view_text.specs.Sending.{SendingValue}
use Rattle.view_text.specs.declared.fate.Fate.{Fate}
use Rattle.view_timeline.specs.declared.moves.Link.TheVariants as is
use Rattle.view_timeline.specs.declared.moves.Timeline.{Timeline}

-- the line of a text begins, with when the signal is sent
abbrev pub begun_text : ℕ → List ℕ
begun_text at = 10 ∷ codes "text 'at " ++ decimal at ++ codes ": env: out "

-- the instance that was to take it, if it was one
abbrev pub missing_text : SystemValue → List RecordValue → target.Target → List ℕ
missing_text system records (reached.Instance number) = codes " " ++ party_name system records number
missing_text system records reached.Env = []
missing_text system records reached.Null = []
missing_text system records reached.Nobody = []

-- what became of it
abbrev pub became_text : Option Fate → List ℕ
became_text None = []
became_text (Some fate) = codes ", " ++ fate_word fate

abbrev pub missed_text : SystemValue → List RecordValue → target.Target → Option Fate → List ℕ
missed_text system records to fate =
    codes " to lost" ++ missing_text system records to ++ became_text fate ++ codes "';"

-- The environment is no instance of a chart, and has no events there. So a text says what it sends and nobody takes.
abbrev pub lost_text : SystemValue → List RecordValue → Timeline → SendingValue → List ℕ
lost_text system records told lost =
    begun_text lost.at ++ message_text system lost.item.name is.Plain lost.item.values
    ++ missed_text system records lost.target (lost_fate told lost)
