-- Which words spell which tree: the grammar of the language (Z.106). Each relation says that the words `i`, up to the
-- rest `j`, spell a tree, and is headed by its production. Where a text could be read with a part and without it (a condition,
-- a priority, a priority input), the relation says that it stands: the rest doesn't begin with its first word.
pub mod Behaviour
pub mod Expressions
pub mod Parts
use Rattle.std.specs.Prelude.{◌≡◌, ℕ, Bool, true, false, Option, List, [], ◌∷◌}
use Rattle.sdl_tree.specs.declared.mark.Mark.TheVariants as mark
use Rattle.sdl_tree.specs.declared.name.Spelling.{Spelling}
use Rattle.sdl_tree.specs.Spells.Behaviour.{SpellsStart, SpellsBodyPart}
use Rattle.sdl_tree.specs.Spells.Expressions.{SpellsExpr}
use Rattle.sdl_tree.specs.Spells.Parts.{IsMark, Both, Behind, Before, Followed, Optional, Separated, Repeated, InParentheses, SpellsName, Ended, SpellsClosing, SpellsSigs}
use Rattle.sdl_tree.specs.Tree.{Expr, BodyPart, SignalDefinition, SignalListDefinition, SynonymDefinition, SynonymDefinitions, ParameterGroup, FormalParameters, VariableGroup, TimerDefinition, TimerDefinitions, SignalSet, LocalDefinition, LocalSignals, LocalSignalList, LocalSynonyms, LocalSignalSet, Variables, Timers, Bound, Counts, ProcessDefinition, ChannelEnd, Env, Agent, ChannelPath, ChannelDefinition, Connection, Definition, Signals, SignalList, Synonyms, Channel, Process, BlockPart, InBlock, Connect, BlockDefinition, SystemDefinition, InSystem, Block, Tree}
use Rattle.sdl_tree.specs.Words.{Words, Fixed}

-- NAME [sorts], where sorts = "(" NAME {"," NAME} ")"
abbrev pub SpellsSignalName : SignalDefinition → Words → Words → Type 0
SpellsSignalName s i j = Both SpellsName (InParentheses SpellsName) (s.name, s.sorts) i j

-- signal = "signal" NAME [sorts] {"," NAME [sorts]} end
abbrev pub SpellsSignal : List SignalDefinition → Words → Words → Type 0
SpellsSignal signals i j = Behind mark.Signal (Ended (Separated SpellsSignalName)) signals i j

-- signallist = "signallist" NAME "=" sigs end
abbrev pub SpellsSignalList : SignalListDefinition → Words → Words → Type 0
SpellsSignalList l i j = Both (IsMark mark.SignalList) (Both SpellsName (Behind mark.Equal (Ended SpellsSigs))) (l.word, (l.name, l.items)) i j

-- NAME NAME "=" expr
abbrev pub SpellsSynonymName : ℕ → SynonymDefinition → Words → Words → Type 0
SpellsSynonymName depth s i j = Both SpellsName (Both SpellsName (Behind mark.Equal (SpellsExpr depth))) (s.name, (s.sort, s.value)) i j

-- synonym = "synonym" NAME NAME "=" expr {"," NAME NAME "=" expr} end
abbrev pub SpellsSynonym : ℕ → SynonymDefinitions → Words → Words → Type 0
SpellsSynonym depth s i j = Both (IsMark mark.Synonym) (Ended (Separated (SpellsSynonymName depth))) (s.word, s.synonyms) i j

-- point = "env" | NAME
abbrev pub SpellsPoint : ChannelEnd → Words → Words → Type 0
SpellsPoint (Env w) i j = IsMark mark.Env w i j
SpellsPoint (Agent x) i j = SpellsName x i j

-- path = "from" point "to" point "with" sigs end
abbrev pub SpellsPath : ChannelPath → Words → Words → Type 0
SpellsPath p i j =
    Behind mark.From (Both SpellsPoint (Behind mark.To (Both SpellsPoint (Behind mark.With (Ended SpellsSigs))))) (p.from, (p.to, p.signals)) i j

-- ["nodelay"]
abbrev pub SpellsNoDelay : Bool → Words → Words → Type 0
SpellsNoDelay false i j = i ≡ j
SpellsNoDelay true i j = (s : Spelling) × (i ≡ Fixed mark.NoDelay s ∷ j)

-- ["nodelay"] path [path] "endchannel" [NAME] end
abbrev pub SpellsPaths : ChannelDefinition → Bool × (ChannelPath × Option ChannelPath) → Words → Words → Type 0
SpellsPaths c p i j = Followed (Both SpellsNoDelay (Both SpellsPath (Optional SpellsPath))) (SpellsClosing mark.EndChannel c.name.text) p i j

-- channel = "channel" NAME ["nodelay"] path [path] "endchannel" [NAME] end
abbrev pub SpellsChannel : ChannelDefinition → Words → Words → Type 0
SpellsChannel c i j = Both (IsMark mark.Channel) (Both SpellsName (SpellsPaths c)) (c.word, (c.name, (c.is_nodelay, (c.first, c.second)))) i j

-- "," [expr]
abbrev pub SpellsBound : ℕ → Bound → Words → Words → Type 0
SpellsBound depth b i j = Behind mark.Comma (Optional (SpellsExpr depth)) b.maximum i j

-- counts = "(" [expr] ["," [expr]] ")"
abbrev pub SpellsCounts : ℕ → Counts → Words → Words → Type 0
SpellsCounts depth c i j =
    Both (IsMark mark.Open) (Before (Both (Optional (SpellsExpr depth)) (Optional (SpellsBound depth))) mark.Close) (c.parenthesis, (c.initial, c.bound)) i j

-- NAME {"," NAME} NAME
abbrev pub SpellsParameters : ParameterGroup → Words → Words → Type 0
SpellsParameters g i j = Both (Separated SpellsName) SpellsName (g.names, g.sort) i j

-- "fpar" vars end, where vars = NAME {"," NAME} NAME ["," vars]
abbrev pub SpellsFpar : FormalParameters → Words → Words → Type 0
SpellsFpar f i j = Both (IsMark mark.Fpar) (Ended (Separated SpellsParameters)) (f.word, f.groups) i j

-- [":=" expr]
abbrev pub SpellsInitial : ℕ → Option Expr → Words → Words → Type 0
SpellsInitial depth initial i j = Optional (Behind mark.Assign (SpellsExpr depth)) initial i j

-- NAME {"," NAME} NAME [":=" expr]
abbrev pub SpellsVariables : ℕ → VariableGroup → Words → Words → Type 0
SpellsVariables depth g i j = Both (Separated SpellsName) (Both SpellsName (SpellsInitial depth)) (g.names, (g.sort, g.initial)) i j

-- "dcl" vars end, where vars = NAME {"," NAME} NAME [":=" expr] ["," vars]
abbrev pub SpellsDcl : ℕ → List VariableGroup → Words → Words → Type 0
SpellsDcl depth groups i j = Behind mark.Dcl (Ended (Separated (SpellsVariables depth))) groups i j

-- one = NAME [sorts] [":=" expr]
abbrev pub SpellsOne : ℕ → TimerDefinition → Words → Words → Type 0
SpellsOne depth t i j = Both SpellsName (Both (InParentheses SpellsName) (SpellsInitial depth)) (t.name, (t.sorts, t.duration)) i j

-- timer = "timer" one {"," one} end
abbrev pub SpellsTimer : ℕ → TimerDefinitions → Words → Words → Type 0
SpellsTimer depth t i j = Both (IsMark mark.Timer) (Ended (Separated (SpellsOne depth))) (t.word, t.timers) i j

-- "signalset" sigs end
abbrev pub SpellsSignalSet : SignalSet → Words → Words → Type 0
SpellsSignalSet s i j = Both (IsMark mark.SignalSet) (Ended SpellsSigs) (s.word, s.items) i j

-- pdef = signal | signallist | synonym | "signalset" sigs end | "dcl" vars end | timer
abbrev pub SpellsPdef : ℕ → LocalDefinition → Words → Words → Type 0
SpellsPdef depth (LocalSignals signals) i j = SpellsSignal signals i j
SpellsPdef depth (LocalSignalList list) i j = SpellsSignalList list i j
SpellsPdef depth (LocalSynonyms synonyms) i j = SpellsSynonym depth synonyms i j
SpellsPdef depth (LocalSignalSet signals) i j = SpellsSignalSet signals i j
SpellsPdef depth (Variables groups) i j = SpellsDcl depth groups i j
SpellsPdef depth (Timers timers) i j = SpellsTimer depth timers i j

-- {state | connection} "endprocess" [NAME] end
abbrev pub SpellsBody : ℕ → ProcessDefinition → List BodyPart → Words → Words → Type 0
SpellsBody depth p body i j = Followed (Repeated (SpellsBodyPart depth)) (SpellsClosing mark.EndProcess p.name.text) body i j

-- process = "process" NAME [counts] end ["fpar" vars end] {pdef} start {state | connection} "endprocess" [NAME] end
abbrev pub SpellsProcess : ℕ → ProcessDefinition → Words → Words → Type 0
SpellsProcess depth p i j = Both
    (IsMark mark.Process)
    (Both SpellsName (Both (Ended (Optional (SpellsCounts depth))) (Both (Optional SpellsFpar) (Both (Repeated (SpellsPdef depth)) (Both (SpellsStart depth) (SpellsBody depth p))))))
    (p.word, (p.name, (p.counts, (p.parameters, (p.definitions, (p.start, p.body))))))
    i
    j

-- connect = "connect" NAME {"," NAME} "and" NAME {"," NAME} end
abbrev pub SpellsConnect : Connection → Words → Words → Type 0
SpellsConnect c i j =
    Both (IsMark mark.Connect) (Both (Separated SpellsName) (Behind mark.And (Ended (Separated SpellsName)))) (c.word, (c.outer, c.inner)) i j

-- def = signal | signallist | synonym | channel | connect | block | process,
-- where a block stands in a system alone, and a connect in a block alone
abbrev pub SpellsDef : ℕ → Definition → Words → Words → Type 0
SpellsDef depth (Signals signals) i j = SpellsSignal signals i j
SpellsDef depth (SignalList list) i j = SpellsSignalList list i j
SpellsDef depth (Synonyms synonyms) i j = SpellsSynonym depth synonyms i j
SpellsDef depth (Channel channel) i j = SpellsChannel channel i j
SpellsDef depth (Process process) i j = SpellsProcess depth process i j

abbrev pub SpellsBlockPart : ℕ → BlockPart → Words → Words → Type 0
SpellsBlockPart depth (InBlock definition) i j = SpellsDef depth definition i j
SpellsBlockPart depth (Connect connection) i j = SpellsConnect connection i j

-- {def} "endblock" [NAME] end
abbrev pub SpellsBlockParts : ℕ → BlockDefinition → List BlockPart → Words → Words → Type 0
SpellsBlockParts depth b parts i j = Followed (Repeated (SpellsBlockPart depth)) (SpellsClosing mark.EndBlock b.name.text) parts i j

-- block = "block" NAME end {def} "endblock" [NAME] end
abbrev pub SpellsBlock : ℕ → BlockDefinition → Words → Words → Type 0
SpellsBlock depth b i j = Both (IsMark mark.Block) (Both (Ended SpellsName) (SpellsBlockParts depth b)) (b.word, (b.name, b.definitions)) i j

abbrev pub SpellsSystemDef : ℕ → SystemDefinition → Words → Words → Type 0
SpellsSystemDef depth (InSystem definition) i j = SpellsDef depth definition i j
SpellsSystemDef depth (Block block) i j = SpellsBlock depth block i j

-- {def} "endsystem" [NAME] end
abbrev pub SpellsSystemDefs : ℕ → Tree → List SystemDefinition → Words → Words → Type 0
SpellsSystemDefs depth t definitions i j = Followed (Repeated (SpellsSystemDef depth)) (SpellsClosing mark.EndSystem t.name.text) definitions i j

-- spec = "system" NAME end {def} "endsystem" [NAME] end, and nothing behind it, where at most `depth` parentheses and
-- decisions stand inside each other
abbrev pub SpellsTree : ℕ → Tree → Words → Type 0
SpellsTree depth t i = Behind mark.System (Both (Ended SpellsName) (SpellsSystemDefs depth t)) (t.name, t.definitions) i []
