-- What the program answers to its input.
use Rattle.std.specs.Prelude.{◌≡◌, ◌⊎◌, ℕ, Bool, true, false, List, Option, None, Some, IfSome}
use Rattle.std.specs.Io.KnownBytes.{Appends, Keeps}
use Rattle.sdl_build.specs.Built.{IsBuilt}
use Rattle.sdl_build.specs.Outcome.{IsRefusedAs}
use Rattle.sdl_build.specs.declared.error.BuildError.{BuildError}
use Rattle.serial_order.specs.Report.{IsSerialReport}
use Rattle.sdl_engine.specs.Input.{IsRead}
use Rattle.sdl_engine.specs.Parts.{HasParts}
use Rattle.sdl_engine.specs.declared.input.Input.{Input}
use Rattle.sdl_engine.specs.declared.input.Input.TheVariants.{Held, TooLong}
use Rattle.sdl_engine.specs.declared.texts.Texts.{Texts}
use Rattle.sdl_lex.specs.declared.error.LexError.TheVariants as lex
use Rattle.sdl_parse.specs.Parser.{SpellsText}
use Rattle.sdl_parse.specs.Parser as parser
use Rattle.sdl_parse.specs.declared.error.ParseError.{ParseError}
use Rattle.sdl_parse.specs.declared.error.ParseError.TheVariants as parse
use Rattle.sdl_report.specs.Gathered as gathered
use Rattle.sdl_report.specs.declared.write_whole.WriteFault.{WriteFault}
use Rattle.sdl_report.specs.declared.write_whole.WriteFault.TheVariants as written
use Rattle.run_record.specs.declared.record.Report.{Report}
use Rattle.run_record.specs.declared.run_error.RunError.{RunError}
use Rattle.run_record.specs.declared.run_error.RunError.TheVariants as run
use Rattle.run_semantics.specs.Behaves.{AreBehaviours}
use Rattle.sdl_script.specs.Script.{IsScript}
use Rattle.sdl_script.specs.ScriptText.{SaysScript}
use Rattle.sdl_script.specs.ScriptText as faults
use Rattle.sdl_script.specs.declared.script.ScriptError.{ScriptError}
use Rattle.sdl_script.specs.declared.script.ScriptLine.{ScriptLine}
use Rattle.sdl_system.specs.Behaviour.{Behaviour}
use Rattle.sdl_system.specs.System.{SystemValue}
use Rattle.sdl_tree.specs.Canonical.{canonical_text}
use Rattle.sdl_tree.specs.Tree.{Tree}
use Rattle.settle_meaning.specs.Settled.{IsSettledReport}
use Rattle.view_run.specs.declared.order_log.OrderLog.{OrderLog}
use Rattle.sdl_engine.specs.Behaviours.{AreOfText}
use Rattle.sdl_engine.specs.Log.{IsLogBy}
use Rattle.sdl_engine.specs.RefusalText.{refusal_line}
use Rattle.sdl_engine.specs.Views.{IsTold}
use Rattle.sdl_engine.specs.declared.options.Command.{Command}
use Rattle.sdl_engine.specs.declared.options.Command.TheVariants as command
use Rattle.sdl_engine.specs.declared.options.Options.{Options}
use Rattle.sdl_engine.specs.declared.options.Outcome.{Outcome}
use Rattle.sdl_engine.specs.declared.options.Outcome.TheVariants as outcome
use Rattle.sdl_engine.specs.declared.options.TextFault.{TextFault}
use Rattle.sdl_engine.specs.declared.options.TextFault.TheVariants as fault
use Rattle.sdl_engine.specs.declared.options.View.{View}
use Rattle.sdl_engine.specs.declared.options.View.TheVariants as views
use Rattle.sdl_engine.specs.declared.refusal.Refusal.{Refusal}
use Rattle.sdl_engine.specs.declared.refusal.Refusal.TheVariants as refusal

-- ---- accepted

-- The input is accepted: its specification spells the tree, the system is built of it, and the lines are those of the
-- script behind it.
pub record IsAccepted (texts : Texts) (tree : Tree) (system : SystemValue) (lines : List ScriptLine) : Type 0 where
  pub specification : List ℕ
  pub script : List ℕ
  pub parted : HasParts texts specification script
  pub spelled : SpellsText tree specification
  pub built : IsBuilt tree system
  pub is_script : IsScript system lines
  pub says : SaysScript system script lines

-- What the report of a run is, by its workers: without them that of a serial run; with so many it is whole, or cut at the
-- limit, nothing is lost in it, and all is in time. The latter is said for all behaviours that the processes of the system
-- mean, and these are such.
abbrev pub IsReportBy : Option ℕ → List Behaviour → SystemValue → List ScriptLine → ℕ → Report → Type 0
IsReportBy None ps system lines limit report = IsSerialReport ps system lines limit report
IsReportBy (Some workers) ps system lines limit report =
    AreBehaviours system ps × IsSettledReport system lines limit report

-- The report is that of a run of the system of an accepted input on its script, cut at the limit if it comes to that: so
-- for all behaviours that the texts of the processes have, and they have some. The script has these lines. What was kept
-- for the order, if anything was, is that of such a run.
pub record IsRunOf (texts : Texts) (workers : Option ℕ) (limit : ℕ) (system : SystemValue) (report : Report)
    (lines : List ScriptLine) (log : Option OrderLog) : Type 0 where
  pub tree : Tree
  pub accepted : IsAccepted texts tree system lines
  pub behaves : (ps : List Behaviour) × AreOfText accepted.built.context system ps
  pub ran : (ps : List Behaviour) → AreOfText accepted.built.context system ps
      → IsReportBy workers ps system lines limit report
  pub kept : (ps : List Behaviour) → AreOfText accepted.built.context system ps
      → IfSome log (IsLogBy workers ps system lines limit report)

-- the text that tells such a run, one that is whole or one that was cut; its order is told by what was kept for that
pub record Reports (texts : Texts) (workers : Option ℕ) (limit : ℕ) (view : View) (whole : Bool)
    (text : List ℕ) : Type 0 where
  pub system : SystemValue
  pub report : Report
  pub lines : List ScriptLine
  pub log : Option OrderLog
  pub run : IsRunOf texts workers limit system report lines log
  pub is_whole : report.whole ≡ whole
  pub stuck : Option ℕ
  pub says : IsTold view log system report lines stuck text

-- the canonical text of the tree of an accepted input
pub record Prints (texts : Texts) (text : List ℕ) : Type 0 where
  pub tree : Tree
  pub system : SystemValue
  pub lines : List ScriptLine
  pub accepted : IsAccepted texts tree system lines
  pub canonical : text ≡ canonical_text tree

-- ---- asked

-- No thread is asked for: a run has no workers. A check has no use for them.
abbrev pub IsSerial : Options → Type 0
IsSerial options = options.command ≡ command.Run → options.workers ≡ None

-- The workers of a command for which so many are asked, by whether there are threads: without threads a run has none.
abbrev pub workers_by : Bool → Command → Option ℕ → Option ℕ
workers_by true how asked = asked
workers_by false command.Check asked = asked
workers_by false command.Run asked = None

-- the options as they are carried out with threads, or without
abbrev pub carried : Bool → Options → Options
carried threaded options = record options { workers = workers_by threaded options.command options.workers }

-- Notes have nothing to say of the order: it is asked for of a run alone, and the trace doesn't tell it.
abbrev pub TellsNoOrder : Options → Type 0
TellsNoOrder options = options.command ≡ command.Run → options.view ≡ views.Trace

-- ---- refused

-- whether the refusal is one of the run, and not of the text
abbrev pub outcome_of : Refusal → Outcome
outcome_of (refusal.Run error) = outcome.RunRefused
outcome_of refused = outcome.TextRefused

-- a specification has no tokens, or they spell no tree, as is told
pub record IsParseRefused (texts : Texts) (error : ParseError) : Type 0 where
  pub specification : List ℕ
  pub script : List ℕ
  pub parted : HasParts texts specification script
  pub refused : parser.Refuses error specification

-- a specification spells a tree in which the rule that is told is broken, or there was no memory to build its system
pub record IsBuildRefused (texts : Texts) (error : BuildError) : Type 0 where
  pub specification : List ℕ
  pub script : List ℕ
  pub parted : HasParts texts specification script
  pub tree : Tree
  pub spelled : SpellsText tree specification
  pub refused : IsRefusedAs tree error

-- a specification spells a tree of which a system is built, and the script for this is refused at the line, and for the
-- fault, that is told
pub record IsScriptRefused (texts : Texts) (error : ScriptError) : Type 0 where
  pub specification : List ℕ
  pub script : List ℕ
  pub parted : HasParts texts specification script
  pub tree : Tree
  pub spelled : SpellsText tree specification
  pub system : SystemValue
  pub built : IsBuilt tree system
  pub at_fault : faults.Refuses error system script

-- a run is refused only of an input that is accepted
pub record IsRunRefused (texts : Texts) : Type 0 where
  pub tree : Tree
  pub system : SystemValue
  pub lines : List ScriptLine
  pub accepted : IsAccepted texts tree system lines

-- the texts are not accepted, as is told
abbrev pub IsTextRefused : Texts → Refusal → Type 0
IsTextRefused texts (refusal.Parse error) = IsParseRefused texts error
IsTextRefused texts (refusal.Build error) = IsBuildRefused texts error
IsTextRefused texts (refusal.Script error) = IsScriptRefused texts error
IsTextRefused texts (refusal.Run error) = ⊥

-- What a run may tell of itself: lack of memory, with workers and without; that something is lost only with workers. A
-- serial run never loses anything.
abbrev pub AllowsOfRun : Option ℕ → Texts → RunError → Type 0
AllowsOfRun workers texts run.Memory = IsRunRefused texts
AllowsOfRun None texts (run.Lost number) = ⊥
AllowsOfRun (Some workers) texts (run.Lost number) = IsRunRefused texts

-- what a command may tell of these texts: both the same of the texts, and a run also of itself
abbrev pub AllowsOf : Command → Option ℕ → Texts → Refusal → Type 0
AllowsOf command.Run workers texts (refusal.Run error) = AllowsOfRun workers texts error
AllowsOf how workers texts refused = IsTextRefused texts refused

-- the same of an input: one that is too long is a text that is too long
abbrev pub Allows : Command → Option ℕ → Input → Refusal → Type 0
Allows how workers (Held texts) refused = AllowsOf how workers texts refused
Allows how workers TooLong refused = refused ≡ refusal.Parse (parse.Lex lex.TooLong)

-- one line that tells a refusal of this input
pub record Refuses (asked : Command) (workers : Option ℕ) (input : Input) (refused_as : Outcome)
    (text : List ℕ) : Type 0 where
  pub refused : Refusal
  pub allowed : Allows asked workers input refused
  pub kind : outcome_of refused ≡ refused_as
  pub line : text ≡ refusal_line refused

-- ---- what is written

-- what is written of these texts where they are accepted: of a check the canonical text, of a run its report
abbrev pub SaysWhole : Command → Option ℕ → Texts → ℕ → View → List ℕ → Type 0
SaysWhole command.Check workers texts limit view text = Prints texts text
SaysWhole command.Run workers texts limit view text = Reports texts workers limit view true text

-- the report of a run that was cut; a check is never cut
abbrev pub SaysCut : Command → Option ℕ → Texts → ℕ → View → List ℕ → Type 0
SaysCut command.Check workers texts limit view text = ⊥
SaysCut command.Run workers texts limit view text = Reports texts workers limit view false text

-- what is written of this input, by the outcome
abbrev pub Says : Input → Options → Outcome → List ℕ → Type 0
Says (Held texts) options outcome.Whole text =
    SaysWhole options.command options.workers texts options.limit options.view text
Says (Held texts) options outcome.Cut text =
    SaysCut options.command options.workers texts options.limit options.view text
Says TooLong options outcome.Whole text = ⊥
Says TooLong options outcome.Cut text = ⊥
Says input options outcome.TextRefused text =
    Refuses options.command options.workers input outcome.TextRefused text
Says input options outcome.RunRefused text = Refuses options.command options.workers input outcome.RunRefused text

-- this is what is written of the input, and all of it went out
pub record Tells (input : Input) (options : Options) (how : Outcome) (old new : Option (List ℕ)) : Type 0 where
  pub text : List ℕ
  pub says : Says input options how text
  pub out : Appends old new text

-- a beginning of what is to be written of the input went out, and not all of it
pub record BreaksOffTelling (input : Input) (options : Options) (old new : Option (List ℕ)) : Type 0 where
  pub how : Outcome
  pub text : List ℕ
  pub says : Says input options how text
  pub breaks : gathered.BreaksOff old new text

-- After a fault of writing a beginning of the answer may have gone out. For lack of memory that may be so, or nothing
-- was written.
abbrev pub Fails : TextFault → Input → Options → Option (List ℕ) → Option (List ℕ) → Type 0
Fails fault.Read input options old new = ⊥
Fails fault.Write input options old new = BreaksOffTelling input options old new
Fails fault.Memory input options old new = Keeps old new ⊎ BreaksOffTelling input options old new

-- The whole input was read, and what is written of it went out.
pub record Written (text : Option (List ℕ)) (script : Option (Option (List ℕ))) (options : Options) (how : Outcome)
    (old new : Option (List ℕ)) : Type 0 where
  pub input : Input
  pub read : IsRead text script input
  pub tells : Tells input options how old new

-- The whole input was read, and a beginning of what is to be written of it went out, and not all of it.
pub record BrokenOff (text : Option (List ℕ)) (script : Option (Option (List ℕ))) (options : Options)
    (old new : Option (List ℕ)) : Type 0 where
  pub input : Input
  pub read : IsRead text script input
  pub breaks : BreaksOffTelling input options old new

-- After a fault of reading nothing was written; after a fault of writing a beginning of the answer may have gone out.
-- For lack of memory either may be so.
abbrev pub Faulted : TextFault → Option (List ℕ) → Option (Option (List ℕ)) → Options →
    Option (List ℕ) → Option (List ℕ) → Type 0
Faulted fault.Read text script options old new = Keeps old new
Faulted fault.Write text script options old new = BrokenOff text script options old new
Faulted fault.Memory text script options old new = Keeps old new ⊎ BrokenOff text script options old new

-- the canonical text of an input's specification
abbrev pub PrintsInput : Input → List ℕ → Type 0
PrintsInput (Held texts) text = Prints texts text
PrintsInput TooLong text = ⊥

-- the run of an input
abbrev pub IsRunOfInput : Input → Option ℕ → ℕ → SystemValue → Report → List ScriptLine → Option OrderLog → Type 0
IsRunOfInput (Held texts) workers limit system report lines log = IsRunOf texts workers limit system report lines log
IsRunOfInput TooLong workers limit system report lines log = ⊥

-- whether a report is whole, as an outcome
abbrev pub outcome_by : Bool → Outcome
outcome_by true = outcome.Whole
outcome_by false = outcome.Cut

-- a fault of writing, as a fault of the program
abbrev pub fault_of : WriteFault → TextFault
fault_of written.Write = fault.Write
fault_of written.Memory = fault.Memory

-- what went out of a text before this fault of writing it, or before memory was refused: not all of it
abbrev pub BreaksOff : TextFault → List ℕ → Option (List ℕ) → Option (List ℕ) → Type 0
BreaksOff fault.Read text old new = ⊥
BreaksOff fault.Write text old new = gathered.BreaksOff old new text
BreaksOff fault.Memory text old new = gathered.BreaksOff old new text

-- the text that tells a run of which this was kept went out, in its order up to the instance that can't go on, if one
-- can't
pub record TellsRun (view : View) (log : Option OrderLog) (system : SystemValue) (report : Report)
    (lines : List ScriptLine) (stuck : Option ℕ) (old new : Option (List ℕ)) : Type 0 where
  pub text : List ℕ
  pub says : IsTold view log system report lines stuck text
  pub out : Appends old new text

-- a beginning of the text that tells a run went out, and not all of it
pub record BreaksOffRun (view : View) (log : Option OrderLog) (system : SystemValue) (report : Report)
    (lines : List ScriptLine) (old new : Option (List ℕ)) : Type 0 where
  pub text : List ℕ
  pub stuck : Option ℕ
  pub says : IsTold view log system report lines stuck text
  pub breaks : gathered.BreaksOff old new text

-- what went out of a run before this fault: nothing, where there was no memory for its order
abbrev pub FailsToTellRun : TextFault → View → Option OrderLog → SystemValue → Report → List ScriptLine
    → Option (List ℕ) → Option (List ℕ) → Type 0
FailsToTellRun fault.Read view log system report lines old new = ⊥
FailsToTellRun fault.Write view log system report lines old new =
    BreaksOffRun view log system report lines old new
FailsToTellRun fault.Memory view log system report lines old new =
    Keeps old new ⊎ BreaksOffRun view log system report lines old new

-- what went out of the line of a refusal, which is made first: nothing, where there was no memory to make it
abbrev pub FailsToTell : TextFault → List ℕ → Option (List ℕ) → Option (List ℕ) → Type 0
FailsToTell fault.Memory line old new = Keeps old new ⊎ BreaksOff fault.Memory line old new
FailsToTell how line old new = BreaksOff how line old new
