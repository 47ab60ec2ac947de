-- How processes are read: a device of the proofs, which say that it reads what the grammar spells and nothing else.
use Rattle.std.specs.Prelude.{ℕ, Bool, true, false, List, [], ◌∷◌, Option, Some, None}
use Rattle.sdl_tree.specs.declared.mark.Mark.{Mark}
use Rattle.sdl_tree.specs.declared.mark.Mark.TheVariants as mark
use Rattle.sdl_tree.specs.declared.name.Spelling.{Spelling}
use Rattle.sdl_tree.specs.Tree.{Expr, Bound, Counts, FormalParameters, LocalDefinition, LocalSignals, LocalSignalList, LocalSynonyms, LocalSignalSet, Variables, Timers, Start, BodyPart, ProcessDefinition}
use Rattle.sdl_tree.specs.Words.{Word, Words, Spot, Fixed}
use Rattle.sdl_tree.specs.Words as word
use Rattle.parse_expressions.specs.Expressions.{expr}
use Rattle.parse_expressions.specs.Parts.{followed, ended, closing, tied, sees_one, signal, signal_list, signal_set}
use Rattle.parse_expressions.specs.Reading.{Parser, ◌⊗◌, behind, before, made, either, maybe, front, sees, expect, name, repeated}
use Rattle.sdl_parse.specs.States.{start, body_part}
use Rattle.sdl_parse.specs.Declarations.{some_fpar, dcl, timer}
use Rattle.sdl_parse.specs.Synonyms.{synonym}

-- ---- counts

abbrev pub opens_expression : Mark → Bool
opens_expression mark.Open = true
opens_expression mark.Active = true
opens_expression mark.Minus = true
opens_expression mark.Not = true
opens_expression mark.True = true
opens_expression mark.False = true
opens_expression mark.Null = true
opens_expression mark.Now = true
opens_expression mark.SelfPid = true
opens_expression mark.Parent = true
opens_expression mark.Offspring = true
opens_expression mark.Sender = true
opens_expression _ = false

abbrev pub begins_expression_by : Option Word → Bool
begins_expression_by None = false
begins_expression_by (Some (Fixed m s)) = opens_expression m
begins_expression_by (Some (word.Name x)) = true
begins_expression_by (Some (word.Number n x)) = true
begins_expression_by (Some (word.Text x)) = false
begins_expression_by (Some (word.LeftOut lower x)) = false

-- whether an expression can begin with what stands next
unfoldable pub begins_expression : Words → Bool
begins_expression i = begins_expression_by (front i)

-- [expr]
abbrev pub count : ℕ → Parser (Option Expr)
count depth = maybe begins_expression (expr depth)

abbrev pub bound_with : Option Expr → Bound
bound_with e = record { maximum = e }

-- ["," [expr]]
abbrev pub bound : ℕ → Parser (Option Bound)
bound depth = maybe (sees mark.Comma) (made bound_with (behind mark.Comma (count depth)))

abbrev pub counts_with : Spelling × (Option Expr × Option Bound) → Counts
counts_with p = record { parenthesis = p.0; initial = p.1.0; bound = p.1.1 }

-- [counts], where counts = "(" [expr] ["," [expr]] ")"
abbrev pub counts : ℕ → Parser (Option Counts)
counts depth = maybe (sees mark.Open) (made counts_with (expect mark.Open ⊗ before (count depth ⊗ bound depth) mark.Close))

-- ---- what a process defines for itself

abbrev pub local_marks : List Mark
local_marks = mark.Signal ∷ mark.SignalList ∷ mark.Synonym ∷ mark.SignalSet ∷ mark.Dcl ∷ mark.Timer ∷ []

-- pdef = signal | signallist | synonym | "signalset" sigs end | "dcl" vars end | timer
abbrev pub some_local : ℕ → Parser LocalDefinition
some_local depth =
    either (sees mark.Signal) (made LocalSignals signal)
    (either (sees mark.SignalList) (made LocalSignalList signal_list)
    (either (sees mark.Synonym) (made LocalSynonyms (synonym depth))
    (either (sees mark.SignalSet) (made LocalSignalSet signal_set)
    (either (sees mark.Dcl) (made Variables (dcl depth)) (made Timers (timer depth))))))

-- [pdef]
unfoldable pub local_definition : ℕ → Parser (Option LocalDefinition)
local_definition depth = maybe (sees_one local_marks) (some_local depth)

-- ---- processes

-- {state | connection} "endprocess" [NAME] end
abbrev pub body : ℕ → Spot → Parser (List BodyPart)
body depth x = followed (repeated (body_part depth)) (closing mark.EndProcess x.text)

-- all behind the name of a process
abbrev pub inside : ℕ → Spot → Parser (Option Counts × (Option FormalParameters × (List LocalDefinition × (Start × List BodyPart))))
inside depth x = ended (counts depth) ⊗ (some_fpar ⊗ (repeated (local_definition depth) ⊗ (start depth ⊗ body depth x)))

abbrev pub process_with : Spelling × (Spot × (Option Counts × (Option FormalParameters × (List LocalDefinition × (Start × List BodyPart))))) → ProcessDefinition
process_with p = record {
  word = p.0;
  name = p.1.0;
  counts = p.1.1.0;
  parameters = p.1.1.1.0;
  definitions = p.1.1.1.1.0;
  start = p.1.1.1.1.1.0;
  body = p.1.1.1.1.1.1;
}

-- process = "process" NAME [counts] end ["fpar" vars end] {pdef} start {state | connection} "endprocess" [NAME] end
unfoldable pub process : ℕ → Parser ProcessDefinition
process depth = made process_with (expect mark.Process ⊗ tied name (inside depth))
