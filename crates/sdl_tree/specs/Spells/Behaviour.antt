-- Which words spell which transition, and what begins one.
use Rattle.std.specs.Prelude.{◌≡◌, ℕ, ◌⊎◌, zero, suc, Option, List, ◌∷◌}
use Rattle.std.specs.List.{Contains}
use Rattle.sdl_tree.specs.declared.expressions.Operator.{Operator}
use Rattle.sdl_tree.specs.declared.mark.Mark.TheVariants as mark
use Rattle.sdl_tree.specs.declared.name.Spelling.{Spelling}
use Rattle.sdl_tree.specs.Spells.Expressions.{operator_mark, looseness, SpellsExpr, SpellsApplied}
use Rattle.sdl_tree.specs.Spells.Parts.{IsMark, Both, Behind, Before, Followed, Optional, Separated, Repeated, Enclosed, InParentheses, Unless, Wherever, SpellsName, SpellsNumber, SpellsEnd, Ended, SpellsClosing, SpellsSigs}
use Rattle.sdl_tree.specs.Tree.{Number, Expr, Applied, Assignment, Destination, SetClause, Answer, Value, Range, Compared, NextState, Same, To, Terminator, Next, Stop, Join, Ending, Transition, Steps, Action, Task, Output, Set, Reset, Create, Decision, Statement, statements_in, Part, parts_in, else_in, Start, Input, Inputs, InputList, InputAll, Saved, SaveList, SaveAll, Condition, Stimulus, InputPart, PriorityInput, SavePart, ContinuousSignal, States, StateList, StateAll, BodyPart, StatePart, FreeAction}
use Rattle.sdl_tree.specs.Words.{Spot, Words, Fixed}
use Rattle.sdl_tree.specs.Words as word

-- ---- transitions

-- NAME ":=" expr
abbrev pub SpellsAssignment : ℕ → Assignment → Words → Words → Type 0
SpellsAssignment depth a i j = Both SpellsName (Behind mark.Assign (SpellsExpr depth)) (a.variable, a.value) i j

-- "to" expr
abbrev pub SpellsDestination : ℕ → Destination → Words → Words → Type 0
SpellsDestination depth d i j = Both (IsMark mark.To) (SpellsExpr depth) (d.word, d.value) i j

-- clause = "(" expr "," NAME [args] ")" | "(" NAME [args] ")"
abbrev pub SpellsClause : ℕ → SetClause → Words → Words → Type 0
SpellsClause depth c i j =
    Behind mark.Open (Before (Both (Optional (Before (SpellsExpr depth) mark.Comma)) (SpellsApplied depth)) mark.Close) (c.time, c.timer) i j

-- keys = "(" NAME [args] {"," NAME [args]} ")"
abbrev pub SpellsKeys : ℕ → List Applied → Words → Words → Type 0
SpellsKeys depth timers i j = Enclosed (SpellsApplied depth) timers i j

abbrev pub IsComparison : Operator → Type 0
IsComparison o = looseness o ≡ 4

-- answer = expr [":" expr] | ("=" | "/=" | "<" | "<=" | ">" | ">=") expr
abbrev pub SpellsAnswer : ℕ → Answer → Words → Words → Type 0
SpellsAnswer depth (Value e) i j = SpellsExpr depth e i j
SpellsAnswer depth (Range e f) i j = Both (SpellsExpr depth) (Behind mark.Colon (SpellsExpr depth)) (e, f) i j
SpellsAnswer depth (Compared o w e) i j = IsComparison o × Both (IsMark (operator_mark o)) (SpellsExpr depth) (w, e) i j

-- [NAME ":"]
abbrev pub SpellsLabel : Option Spot → Words → Words → Type 0
SpellsLabel label i j = Optional (Before SpellsName mark.Colon) label i j

-- "-" | NAME
abbrev pub SpellsNextState : NextState → Words → Words → Type 0
SpellsNextState (Same w) i j = IsMark mark.Minus w i j
SpellsNextState (To x) i j = SpellsName x i j

-- terminator = "nextstate" ("-" | NAME) end | "stop" end | "join" NAME end
abbrev pub SpellsTerminator : Terminator → Words → Words → Type 0
SpellsTerminator (Next w state) i j = Both (IsMark mark.NextState) (Ended SpellsNextState) (w, state) i j
SpellsTerminator (Stop w) i j = Ended (IsMark mark.Stop) w i j
SpellsTerminator (Join w label) i j = Both (IsMark mark.Join) (Ended SpellsName) (w, label) i j

-- [NAME ":"] terminator
abbrev pub SpellsEnding : Ending → Words → Words → Type 0
SpellsEnding e i j = Both SpellsLabel SpellsTerminator (e.label, e.terminator) i j

-- [NAME ":"] action
abbrev pub SpellsStatement : (Action → Words → Words → Type 0) → Statement → Words → Words → Type 0
SpellsStatement Act s i j = Both SpellsLabel Act (s.label, s.action) i j

-- trans = {[NAME ":"] action} [[NAME ":"] terminator], with these actions
abbrev pub SpellsTransBy : (Action → Words → Words → Type 0) → Transition → Words → Words → Type 0
SpellsTransBy Act (Steps actions ending) i j = Both (Repeated (SpellsStatement Act)) (Optional SpellsEnding) (statements_in actions, ending) i j

-- part = "(" answer {"," answer} ")" ":" trans
abbrev pub SpellsPart : ℕ → (Transition → Words → Words → Type 0) → Part → Words → Words → Type 0
SpellsPart depth Trans p i j = Both (Enclosed (SpellsAnswer depth)) (Behind mark.Colon Trans) (p.answers, p.transition) i j

-- "else" ":" trans
abbrev pub SpellsElse : (Transition → Words → Words → Type 0) → Transition → Words → Words → Type 0
SpellsElse Trans t i j = Behind mark.Else (Behind mark.Colon Trans) t i j

-- expr end {part} ["else" ":" trans] "enddecision" end
abbrev pub SpellsDecision : ℕ → (Transition → Words → Words → Type 0) → Expr × (List Part × Option Transition) → Words → Words → Type 0
SpellsDecision depth Trans d i j =
    Both (Ended (SpellsExpr depth)) (Both (Repeated (SpellsPart depth Trans)) (Ended (Before (Optional (SpellsElse Trans)) mark.EndDecision))) d i j

-- At most `depth` parentheses and decisions stand inside each other.
-- action = "task" NAME ":=" expr {"," NAME ":=" expr} end
--        | "output" NAME [args] {"," NAME [args]} ["to" expr] end
--        | "set" clause {"," clause} end
--        | "reset" keys {"," keys} end
--        | "create" NAME [args] end
--        | "decision" expr end {"(" answer {"," answer} ")" ":" trans} ["else" ":" trans] "enddecision" end
abbrev pub SpellsAction : ℕ → Action → Words → Words → Type 0
SpellsAction depth (Task w assignments) i j = Both (IsMark mark.Task) (Ended (Separated (SpellsAssignment depth))) (w, assignments) i j
SpellsAction depth (Output w outputs destination) i j =
    Both (IsMark mark.Output) (Ended (Both (Separated (SpellsApplied depth)) (Optional (SpellsDestination depth)))) (w, (outputs, destination)) i j
SpellsAction depth (Set w clauses) i j = Both (IsMark mark.Set) (Ended (Separated (SpellsClause depth))) (w, clauses) i j
SpellsAction depth (Reset w groups) i j = Both (IsMark mark.Reset) (Ended (Separated (SpellsKeys depth))) (w, groups) i j
SpellsAction depth (Create w process) i j = Both (IsMark mark.Create) (Ended (SpellsApplied depth)) (w, process) i j
SpellsAction zero (Decision w question parts otherwise) i j = ⊥
SpellsAction (suc depth) (Decision w question parts otherwise) i j =
    Both (IsMark mark.Decision) (SpellsDecision depth (SpellsTransBy (SpellsAction depth))) (w, (question, (parts_in parts, else_in otherwise))) i j

abbrev pub SpellsTrans : ℕ → Transition → Words → Words → Type 0
SpellsTrans depth t i j = SpellsTransBy (SpellsAction depth) t i j

-- ---- states

-- start = "start" end trans
abbrev pub SpellsStart : ℕ → Start → Words → Words → Type 0
SpellsStart depth s i j = Both (Ended (IsMark mark.Start)) (SpellsTrans depth) (s.word, s.transition) i j

-- in1 = NAME ["(" [NAME] {"," [NAME]} ")"]
abbrev pub SpellsIn1 : Input → Words → Words → Type 0
SpellsIn1 input i j = Both SpellsName (InParentheses (Optional SpellsName)) (input.signal, input.variables) i j

-- ins = "*" | in1 {"," in1}
abbrev pub SpellsIns : Inputs → Words → Words → Type 0
SpellsIns (InputList inputs) i j = Separated SpellsIn1 inputs i j
SpellsIns (InputAll asterisk) i j = IsMark mark.Asterisk asterisk i j

-- "*" | sigs
abbrev pub SpellsSaved : Saved → Words → Words → Type 0
SpellsSaved (SaveList items) i j = SpellsSigs items i j
SpellsSaved (SaveAll asterisk) i j = IsMark mark.Asterisk asterisk i j

-- "provided" expr end
abbrev pub SpellsCondition : ℕ → Condition → Words → Words → Type 0
SpellsCondition depth c i j = Both (IsMark mark.Provided) (Ended (SpellsExpr depth)) (c.word, c.condition) i j

-- "priority" NUMBER end
abbrev pub SpellsPriority : Number → Words → Words → Type 0
SpellsPriority n i j = Behind mark.Priority (Ended SpellsNumber) n i j

-- stimulus = "input" ins end ["provided" expr end] trans
--          | "priority" "input" in1 {"," in1} end trans
--          | "save" ("*" | sigs) end
--          | "provided" expr end ["priority" NUMBER end] trans
-- A priority input has no condition, so that no `provided` stands right behind its end.
abbrev pub SpellsStimulus : ℕ → Stimulus → Words → Words → Type 0
SpellsStimulus depth (InputPart w inputs condition transition) i j =
    Both (IsMark mark.Input) (Both (Ended SpellsIns) (Both (Wherever mark.Provided (SpellsCondition depth)) (SpellsTrans depth))) (w, (inputs, (condition, transition))) i j
SpellsStimulus depth (PriorityInput w inputs transition) i j =
    Both (IsMark mark.Priority) (Behind mark.Input (Both (Ended (Separated SpellsIn1)) (Unless mark.Provided (SpellsTrans depth)))) (w, (inputs, transition)) i j
SpellsStimulus depth (SavePart w saved) i j = Both (IsMark mark.Save) (Ended SpellsSaved) (w, saved) i j
SpellsStimulus depth (ContinuousSignal w condition priority transition) i j =
    Both (IsMark mark.Provided) (Both (Ended (SpellsExpr depth)) (Both (Wherever mark.Priority SpellsPriority) (SpellsTrans depth))) (w, (condition, (priority, transition))) i j

-- states = "*" ["(" NAME {"," NAME} ")"] | NAME {"," NAME}
abbrev pub SpellsStates : States → Words → Words → Type 0
SpellsStates (StateList names) i j = Separated SpellsName names i j
SpellsStates (StateAll asterisk except) i j = Both (IsMark mark.Asterisk) (InParentheses SpellsName) (asterisk, except) i j

-- [NAME] after `endstate`: one of the names of the state, and none after `*`
abbrev pub SpellsEndStateName : States → Words → Words → Type 0
SpellsEndStateName (StateList names) i j = (i ≡ j) ⊎ ((x y : Spot) × Contains names x × (y.text ≡ x.text) × (i ≡ word.Name y ∷ j))
SpellsEndStateName (StateAll asterisk except) i j = i ≡ j

-- ["endstate" [NAME] end]
abbrev pub SpellsEndState : States → Words → Words → Type 0
SpellsEndState states i j = (i ≡ j)
    ⊎ ((s : Spelling) × (m k : Words) × (i ≡ Fixed mark.EndState s ∷ m) × SpellsEndStateName states m k × SpellsEnd k j)

-- ["endconnection" [NAME] end]
abbrev pub SpellsEndConnection : Spot → Words → Words → Type 0
SpellsEndConnection label i j = (i ≡ j) ⊎ SpellsClosing mark.EndConnection label.text i j

-- state = "state" states end {stimulus} ["endstate" [NAME] end]
-- connection = "connection" NAME ":" trans ["endconnection" [NAME] end]
abbrev pub SpellsBodyPart : ℕ → BodyPart → Words → Words → Type 0
SpellsBodyPart depth (StatePart states stimuli) i j =
    Behind mark.State (Followed (Both (Ended SpellsStates) (Repeated (SpellsStimulus depth))) (SpellsEndState states)) (states, stimuli) i j
SpellsBodyPart depth (FreeAction w label transition) i j =
    Both (IsMark mark.Connection) (Followed (Both (Before SpellsName mark.Colon) (SpellsTrans depth)) (SpellsEndConnection label)) (w, (label, transition)) i j
