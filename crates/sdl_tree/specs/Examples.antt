-- Small texts with their trees. Where no other is told, the place of each word is that where a text begins.
use Rattle.std.specs.Prelude.{◌≡◌, ℕ, pos, true, false, Some, None, List, [], ◌∷◌, ◌++◌, map, codes}
use Rattle.std.specs.Fmt.{decimal}
use Rattle.sdl_lex.specs.declared.token.Kind.{Kind}
use Rattle.sdl_lex.specs.declared.token.Kind.TheVariants as kind
use Rattle.sdl_lex.specs.declared.token.Token.{Token}
use Rattle.sdl_tree.specs.declared.expressions.KeywordValue.TheVariants as value
use Rattle.sdl_tree.specs.declared.expressions.Operator.TheVariants as operator
use Rattle.sdl_tree.specs.declared.expressions.UnaryOperator.TheVariants as unary
use Rattle.sdl_tree.specs.declared.mark.Case.TheVariants.{Upper}
use Rattle.sdl_tree.specs.declared.name.Spelling.{Spelling}
use Rattle.sdl_tree.specs.Canonical.{canonical_text}
use Rattle.sdl_tree.specs.Erased.{start, plain}
use Rattle.sdl_tree.specs.Spells.{SpellsBlock, SpellsProcess, SpellsTree}
use Rattle.sdl_tree.specs.Spells.Behaviour.{SpellsBodyPart, SpellsTrans}
use Rattle.sdl_tree.specs.Spells.Expressions.{limit, SpellsExpr}
use Rattle.sdl_tree.specs.Tree.{Number, BlockDefinition, BodyPart, Expr, ProcessDefinition, Transition, Tree, Active, Agent, AndAction, AndExpr, AndLink, AndPart, Block, Chain, Channel, Compared, Connect, ContinuousSignal, Create, Decision, Else, Env, FreeAction, InBlock, InSystem, InputList, InputPart, Join, Keyword, ListItem, LocalSignalSet, Named, Next, NoAction, NoExpr, NoLink, NoPart, Numeral, Output, PriorityInput, Process, Range, Reset, Same, SaveAll, SaveList, SavePart, Set, SignalItem, SignalList, Signals, StateAll, StateList, StatePart, Steps, Stop, Synonyms, Task, Timers, To, Unary, Value, Variables}
use Rattle.sdl_tree.specs.Words.{Spot, Words, word_of, words_of}

abbrev pub Pieces : Type 0
Pieces = List (Kind × List ℕ)

-- what is spelled so
abbrev pub spot : List ℕ → Spot
spot text = record { text = text; place = start }

-- what tokens of these kinds with these bytes mean
abbrev pub words : Pieces → Words
words pieces = map (λ piece. word_of piece.0 (spot piece.1)) pieces

abbrev pub word : List ℕ → Kind × List ℕ
word bytes = (kind.Word, bytes)

abbrev pub sign : List ℕ → Kind × List ℕ
sign bytes = (kind.Mark, bytes)

abbrev pub number : ℕ → Kind × List ℕ
number k = (kind.Number (pos k), decimal k)

abbrev pub string : Kind × List ℕ
string = (kind.Text, codes "'c'")

abbrev pub upper : Spelling
upper = record { case = Upper; place = start }

abbrev pub numeral : ℕ → Number
numeral k = record { value = pos k; digits = spot (decimal k) }

abbrev pub n : ℕ → Expr
n k = Numeral (numeral k)

-- ---- a system with a channel and a process of one state

abbrev pub system_pieces : Pieces
system_pieces =
    word (codes "SYSTEM") ∷ word (codes "S") ∷ word (codes "comment") ∷ string ∷ sign (codes ";")
    ∷ word (codes "signal") ∷ word (codes "a") ∷ sign (codes ";")
    ∷ word (codes "CHANNEL") ∷ word (codes "C") ∷ word (codes "from") ∷ word (codes "env") ∷ word (codes "to") ∷ word (codes "P") ∷ word (codes "with")
    ∷ word (codes "a") ∷ sign (codes ";") ∷ word (codes "endchannel") ∷ word (codes "C") ∷ sign (codes ";")
    ∷ word (codes "PROCESS") ∷ word (codes "P") ∷ sign (codes ";")
    ∷ word (codes "START") ∷ sign (codes ";") ∷ word (codes "NEXTSTATE") ∷ word (codes "s") ∷ sign (codes ";")
    ∷ word (codes "state") ∷ word (codes "s") ∷ sign (codes ";") ∷ word (codes "endstate") ∷ word (codes "s") ∷ sign (codes ";")
    ∷ word (codes "ENDPROCESS") ∷ sign (codes ";") ∷ word (codes "endsystem") ∷ sign (codes ";") ∷ []

abbrev pub system_tree : Tree
system_tree = record {
  name = spot (codes "S");
  definitions =
      InSystem (Signals (record { name = spot (codes "a"); sorts = [] } ∷ []))
      ∷ InSystem (Channel (record {
        word = upper;
        name = spot (codes "C");
        is_nodelay = false;
        first = record { from = Env plain; to = Agent (spot (codes "P")); signals = SignalItem (spot (codes "a")) ∷ [] };
        second = None;
      }))
      ∷ InSystem (Process (record {
        word = upper;
        name = spot (codes "P");
        counts = None;
        parameters = None;
        definitions = [];
        start = record { word = upper; transition = Steps (NoAction) (Some (record { label = None; terminator = Next upper (To (spot (codes "s"))) })) };
        body = StatePart (StateList (spot (codes "s") ∷ [])) ([]) ∷ [];
      }))
      ∷ [];
}

abbrev pub lines : List (List ℕ) → List ℕ
lines [] = []
lines (line ∷ others) = line ++ (10 ∷ lines others)

abbrev pub SystemSpelled : Type 0
SystemSpelled = SpellsTree limit system_tree (words system_pieces)

abbrev pub SystemWritten : Type 0
SystemWritten = canonical_text system_tree ≡ lines (
    codes "system S ;"
    ∷ codes "signal a ;"
    ∷ codes "channel C from env to P with a ;"
    ∷ codes "endchannel C ;"
    ∷ codes "process P ;"
    ∷ codes "start ;"
    ∷ codes "nextstate s ;"
    ∷ codes "state s ;"
    ∷ codes "endstate ;"
    ∷ codes "endprocess P ;"
    ∷ codes "endsystem S ;"
    ∷ [])

-- ---- a transition with each action

-- `q: task v := 0, f := true; .. nextstate -;`
abbrev pub transition_words : Words
transition_words = words (
    word (codes "q") ∷ sign (codes ":") ∷ word (codes "task") ∷ word (codes "v") ∷ sign (codes ":=") ∷ number 0
    ∷ sign (codes ",") ∷ word (codes "f") ∷ sign (codes ":=") ∷ word (codes "true") ∷ sign (codes ";")
    ∷ word (codes "output") ∷ word (codes "a") ∷ sign (codes ",") ∷ word (codes "b") ∷ sign (codes "(") ∷ number 1
    ∷ sign (codes ",") ∷ word (codes "v") ∷ sign (codes ")") ∷ word (codes "to") ∷ word (codes "sender")
    ∷ sign (codes ";") ∷ word (codes "set") ∷ sign (codes "(") ∷ word (codes "now") ∷ sign (codes "+") ∷ number 1
    ∷ sign (codes ",") ∷ word (codes "T") ∷ sign (codes "(") ∷ number 2 ∷ sign (codes ")") ∷ sign (codes ")")
    ∷ sign (codes ",") ∷ sign (codes "(") ∷ word (codes "U") ∷ sign (codes ")") ∷ sign (codes ";")
    ∷ word (codes "reset") ∷ sign (codes "(") ∷ word (codes "T") ∷ sign (codes "(") ∷ number 2 ∷ sign (codes ")")
    ∷ sign (codes ",") ∷ word (codes "U") ∷ sign (codes ")") ∷ sign (codes ",") ∷ sign (codes "(") ∷ word (codes "U")
    ∷ sign (codes ")") ∷ sign (codes ";") ∷ word (codes "create") ∷ word (codes "P") ∷ sign (codes "(")
    ∷ word (codes "self") ∷ sign (codes ")") ∷ sign (codes ";") ∷ word (codes "decision") ∷ word (codes "v")
    ∷ sign (codes ";") ∷ sign (codes "(") ∷ number 1 ∷ sign (codes ",") ∷ sign (codes ">") ∷ number 3
    ∷ sign (codes ",") ∷ number 4 ∷ sign (codes ":") ∷ number 5 ∷ sign (codes ")") ∷ sign (codes ":")
    ∷ word (codes "stop") ∷ sign (codes ";") ∷ sign (codes "(") ∷ number 2 ∷ sign (codes ")") ∷ sign (codes ":")
    ∷ word (codes "else") ∷ sign (codes ":") ∷ word (codes "join") ∷ word (codes "q") ∷ sign (codes ";")
    ∷ word (codes "enddecision") ∷ word (codes "comment") ∷ string ∷ sign (codes ";") ∷ word (codes "nextstate")
    ∷ sign (codes "-") ∷ sign (codes ";") ∷ [])

abbrev pub transition_tree : Transition
transition_tree = Steps (AndAction (Some (spot (codes "q"))) (Task plain (record { variable = spot (codes "v"); value = n 0 } ∷ record { variable = spot (codes "f"); value = Keyword value.True plain } ∷ [])) (AndAction None (Output plain (record { name = spot (codes "a"); values = [] } ∷ record { name = spot (codes "b"); values = n 1 ∷ Named (spot (codes "v")) ∷ [] } ∷ []) (Some (record { word = plain; value = Keyword value.Sender plain }))) (AndAction None (Set plain (record { time = Some (Chain (Keyword value.Now plain) (AndLink operator.Plus plain (n 1) (NoLink))); timer = record { name = spot (codes "T"); values = n 2 ∷ [] } } ∷ record { time = None; timer = record { name = spot (codes "U"); values = [] } } ∷ [])) (AndAction None (Reset plain ((record { name = spot (codes "T"); values = n 2 ∷ [] } ∷ record { name = spot (codes "U"); values = [] } ∷ []) ∷ (record { name = spot (codes "U"); values = [] } ∷ []) ∷ [])) (AndAction None (Create plain (record { name = spot (codes "P"); values = Keyword value.SelfPid plain ∷ [] })) (AndAction None (Decision plain (Named (spot (codes "v"))) (AndPart (Value (n 1) ∷ Compared operator.Greater plain (n 3) ∷ Range (n 4) (n 5) ∷ []) (Steps (NoAction) (Some (record { label = None; terminator = Stop plain }))) (AndPart (Value (n 2) ∷ []) (Steps (NoAction) None) (NoPart))) (Else (Steps (NoAction) (Some (record { label = None; terminator = Join plain (spot (codes "q")) }))))) (NoAction))))))) (Some (record { label = None; terminator = Next plain (Same plain) }))

abbrev pub TransitionSpelled : Type 0
TransitionSpelled = SpellsTrans limit transition_tree transition_words []

-- ---- a state with each stimulus

abbrev pub state_words : Words
state_words = words (
    word (codes "state") ∷ sign (codes "*") ∷ sign (codes "(") ∷ word (codes "s") ∷ sign (codes ",") ∷ word (codes "t")
    ∷ sign (codes ")") ∷ sign (codes ";") ∷ word (codes "save") ∷ sign (codes "*") ∷ sign (codes ";")
    ∷ word (codes "save") ∷ word (codes "a") ∷ sign (codes ",") ∷ sign (codes "(") ∷ word (codes "L") ∷ sign (codes ")")
    ∷ sign (codes ";") ∷ word (codes "priority") ∷ word (codes "input") ∷ word (codes "a") ∷ sign (codes ",")
    ∷ word (codes "b") ∷ sign (codes "(") ∷ word (codes "v") ∷ sign (codes ",") ∷ sign (codes ")") ∷ sign (codes ";")
    ∷ word (codes "stop") ∷ sign (codes ";") ∷ word (codes "input") ∷ word (codes "c") ∷ sign (codes "(")
    ∷ sign (codes ")") ∷ sign (codes ";") ∷ word (codes "provided") ∷ word (codes "not") ∷ word (codes "f")
    ∷ sign (codes ";") ∷ word (codes "provided") ∷ word (codes "active") ∷ sign (codes "(") ∷ word (codes "T")
    ∷ sign (codes "(") ∷ number 1 ∷ sign (codes ")") ∷ sign (codes ")") ∷ sign (codes ";")
    ∷ word (codes "priority") ∷ number 3 ∷ sign (codes ";") ∷ word (codes "stop") ∷ sign (codes ";")
    ∷ word (codes "endstate") ∷ sign (codes ";") ∷ [])

abbrev pub state_tree : BodyPart
state_tree = StatePart (StateAll plain (spot (codes "s") ∷ spot (codes "t") ∷ [])) (SavePart plain (SaveAll plain) ∷ SavePart plain (SaveList (SignalItem (spot (codes "a")) ∷ ListItem (spot (codes "L")) ∷ [])) ∷ PriorityInput plain (record { signal = spot (codes "a"); variables = [] } ∷ record { signal = spot (codes "b"); variables = Some (spot (codes "v")) ∷ None ∷ [] } ∷ []) (Steps (NoAction) (Some (record { label = None; terminator = Stop plain }))) ∷ InputPart plain (InputList (record { signal = spot (codes "c"); variables = None ∷ [] } ∷ [])) (Some (record { word = plain; condition = Unary unary.Not plain (Named (spot (codes "f"))) })) (Steps (NoAction) None) ∷ ContinuousSignal plain (Active plain (spot (codes "T")) (AndExpr (n 1) (NoExpr))) (Some (numeral 3)) (Steps (NoAction) (Some (record { label = None; terminator = Stop plain }))) ∷ [])

abbrev pub StateSpelled : Type 0
StateSpelled = SpellsBodyPart limit state_tree state_words []

-- ---- a process with each of its definitions

abbrev pub process_words : Words
process_words = words (
    word (codes "process") ∷ word (codes "P") ∷ sign (codes "(") ∷ number 1 ∷ sign (codes ",") ∷ sign (codes ")")
    ∷ sign (codes ";") ∷ word (codes "fpar") ∷ word (codes "x") ∷ sign (codes ",") ∷ word (codes "y") ∷ word (codes "PId")
    ∷ sign (codes ",") ∷ word (codes "z") ∷ word (codes "Boolean") ∷ sign (codes ";") ∷ word (codes "signalset")
    ∷ word (codes "a") ∷ sign (codes ",") ∷ sign (codes "(") ∷ word (codes "L") ∷ sign (codes ")") ∷ sign (codes ";")
    ∷ word (codes "dcl") ∷ word (codes "v") ∷ word (codes "Integer") ∷ sign (codes ":=") ∷ sign (codes "-") ∷ number 1
    ∷ sign (codes ",") ∷ word (codes "f") ∷ word (codes "Boolean") ∷ sign (codes ";") ∷ word (codes "timer")
    ∷ word (codes "T") ∷ sign (codes "(") ∷ word (codes "Integer") ∷ sign (codes ")") ∷ sign (codes ":=") ∷ number 5
    ∷ sign (codes ",") ∷ word (codes "U") ∷ sign (codes ";") ∷ word (codes "start") ∷ sign (codes ";")
    ∷ word (codes "stop") ∷ sign (codes ";") ∷ word (codes "connection") ∷ word (codes "r") ∷ sign (codes ":")
    ∷ word (codes "stop") ∷ sign (codes ";") ∷ word (codes "endprocess") ∷ sign (codes ";") ∷ [])

abbrev pub process_tree : ProcessDefinition
process_tree = record {
  word = plain;
  name = spot (codes "P");
  counts = Some (record { parenthesis = plain; initial = Some (n 1); bound = Some (record { maximum = None }) });
  parameters = Some (record { word = plain; groups = record { names = spot (codes "x") ∷ spot (codes "y") ∷ []; sort = spot (codes "PId") } ∷ record { names = spot (codes "z") ∷ []; sort = spot (codes "Boolean") } ∷ [] });
  definitions = LocalSignalSet (record { word = plain; items = SignalItem (spot (codes "a")) ∷ ListItem (spot (codes "L")) ∷ [] }) ∷ Variables (record { names = spot (codes "v") ∷ []; sort = spot (codes "Integer"); initial = Some (Unary unary.Minus plain (n 1)) } ∷ record { names = spot (codes "f") ∷ []; sort = spot (codes "Boolean"); initial = None } ∷ []) ∷ Timers (record { word = plain; timers = record { name = spot (codes "T"); sorts = spot (codes "Integer") ∷ []; duration = Some (n 5) } ∷ record { name = spot (codes "U"); sorts = []; duration = None } ∷ [] }) ∷ [];
  start = record { word = plain; transition = Steps (NoAction) (Some (record { label = None; terminator = Stop plain })) };
  body = FreeAction plain (spot (codes "r")) (Steps (NoAction) (Some (record { label = None; terminator = Stop plain }))) ∷ [];
}

abbrev pub ProcessSpelled : Type 0
ProcessSpelled = SpellsProcess limit process_tree process_words []

-- ---- a block with each of its definitions

abbrev pub block_words : Words
block_words = words (
    word (codes "block") ∷ word (codes "B") ∷ sign (codes ";") ∷ word (codes "signallist") ∷ word (codes "L")
    ∷ sign (codes "=") ∷ word (codes "a") ∷ sign (codes ",") ∷ sign (codes "(") ∷ word (codes "M") ∷ sign (codes ")")
    ∷ sign (codes ";") ∷ word (codes "synonym") ∷ word (codes "n") ∷ word (codes "Pid") ∷ sign (codes "=")
    ∷ word (codes "null") ∷ sign (codes ";") ∷ word (codes "channel") ∷ word (codes "R") ∷ word (codes "nodelay")
    ∷ word (codes "from") ∷ word (codes "env") ∷ word (codes "to") ∷ word (codes "P") ∷ word (codes "with") ∷ sign (codes "(")
    ∷ word (codes "L") ∷ sign (codes ")") ∷ sign (codes ";") ∷ word (codes "from") ∷ word (codes "P") ∷ word (codes "to")
    ∷ word (codes "env") ∷ word (codes "with") ∷ word (codes "b") ∷ sign (codes ";") ∷ word (codes "endchannel")
    ∷ sign (codes ";") ∷ word (codes "connect") ∷ word (codes "C") ∷ word (codes "and") ∷ word (codes "R")
    ∷ sign (codes ",") ∷ word (codes "Q") ∷ sign (codes ";") ∷ word (codes "endblock") ∷ word (codes "B")
    ∷ sign (codes ";") ∷ [])

abbrev pub block_tree : BlockDefinition
block_tree = record {
  word = plain;
  name = spot (codes "B");
  definitions =
      InBlock (SignalList (record { word = plain; name = spot (codes "L"); items = SignalItem (spot (codes "a")) ∷ ListItem (spot (codes "M")) ∷ [] }))
      ∷ InBlock (Synonyms (record { word = plain; synonyms = record { name = spot (codes "n"); sort = spot (codes "Pid"); value = Keyword value.Null plain } ∷ [] }))
      ∷ InBlock (Channel (record {
        word = plain;
        name = spot (codes "R");
        is_nodelay = true;
        first = record { from = Env plain; to = Agent (spot (codes "P")); signals = ListItem (spot (codes "L")) ∷ [] };
        second = Some (record { from = Agent (spot (codes "P")); to = Env plain; signals = SignalItem (spot (codes "b")) ∷ [] });
      }))
      ∷ Connect (record { word = plain; outer = spot (codes "C") ∷ []; inner = spot (codes "R") ∷ spot (codes "Q") ∷ [] })
      ∷ [];
}

abbrev pub BlockSpelled : Type 0
BlockSpelled = SpellsBlock limit block_tree block_words []

-- ---- operators

-- `a - b - c`
abbrev pub difference : Words
difference = words (word (codes "a") ∷ sign (codes "-") ∷ word (codes "b") ∷ sign (codes "-") ∷ word (codes "c") ∷ [])

-- the last operand
abbrev pub c : Expr
c = Named (spot (codes "c"))

-- Operators of one looseness stand in one chain.
abbrev pub IsOneChain : Type 0
IsOneChain = SpellsExpr limit (Chain (Named (spot (codes "a"))) (AndLink operator.Minus plain (Named (spot (codes "b"))) (AndLink operator.Minus plain (Named (spot (codes "c"))) (NoLink)))) difference []

-- No chain of them stands in another.
abbrev pub NotInAnother : Type 0
NotInAnother = (first rest : Expr) → ¬ SpellsExpr limit
    (Chain (Chain first (AndLink operator.Minus plain rest NoLink)) (AndLink operator.Minus plain c NoLink)) difference []

-- `not a = b`
abbrev pub negation : Words
negation = words (word (codes "not") ∷ word (codes "a") ∷ sign (codes "=") ∷ word (codes "b") ∷ [])

abbrev pub NegatesTheFirst : Type 0
NegatesTheFirst = SpellsExpr limit (Chain (Unary unary.Not plain (Named (spot (codes "a")))) (AndLink operator.Equal plain (Named (spot (codes "b"))) (NoLink))) negation []

-- ---- places

-- `system S;`, and on the next lines `BLOCK B;endblock;` and `endsystem;`
abbrev pub placed_text : List ℕ
placed_text = lines (codes "system S;" ∷ codes "BLOCK B;endblock;" ∷ codes "endsystem;" ∷ [])

abbrev pub token : Kind → ℕ → ℕ → Token
token k from to = record { kind = k; start = from; end = to }

abbrev pub placed_tokens : List Token
placed_tokens =
    token kind.Word 0 6 ∷ token kind.Word 7 8 ∷ token kind.Mark 8 9
    ∷ token kind.Word 10 15 ∷ token kind.Word 16 17 ∷ token kind.Mark 17 18 ∷ token kind.Word 18 26 ∷ token kind.Mark 26 27
    ∷ token kind.Word 28 37 ∷ token kind.Mark 37 38 ∷ []

abbrev pub placed_block : BlockDefinition
placed_block = record {
  word = record { case = Upper; place = record { line = 2; column = 1 } };
  name = record { text = codes "B"; place = record { line = 2; column = 7 } };
  definitions = [];
}

abbrev pub placed_tree : Tree
placed_tree = record {
  name = record { text = codes "S"; place = record { line = 1; column = 8 } };
  definitions = Block placed_block ∷ [];
}

abbrev pub PlacesKept : Type 0
PlacesKept = SpellsTree limit placed_tree (words_of placed_text placed_tokens)
