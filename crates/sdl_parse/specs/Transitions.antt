-- Reading of transitions. A reading is a device of the proofs: what the grammar spells, `sdl_tree` says.
use Rattle.std.specs.Prelude.{ℕ, zero, suc, Bool, ◌||◌, if◌then◌else◌, List, [], ◌∷◌, ◌++◌, length, Option, Some, None, Ok}
use Rattle.sdl_tree.specs.declared.mark.Mark.{Mark}
use Rattle.sdl_tree.specs.declared.mark.Mark.TheVariants as mark
use Rattle.sdl_tree.specs.declared.name.Spelling.{Spelling}
use Rattle.sdl_tree.specs.Tree.{Expr, Answer, NextState, Same, To, Terminator, Next, Stop, Join, Ending, Transition, Steps, Action, Decision, Statement, actions_of, Part, parts_of, else_of}
use Rattle.sdl_tree.specs.Words.{Words, Spot}
use Rattle.sdl_parse.specs.Actions.{task, output, reset, create}
use Rattle.sdl_parse.specs.Answers.{answer}
use Rattle.sdl_parse.specs.Clauses.{set}
use Rattle.parse_expressions.specs.Expressions.{expr}
use Rattle.parse_expressions.specs.Parts.{ended, sees_one}
use Rattle.parse_expressions.specs.Reading.{Parser, ◌>>=◌, pure, too_deep, refuse, ◌⊗◌, behind, before, made, either, maybe, sees, sees_name, expect, name, repeated, enclosed}

-- ---- labels and terminators

-- [NAME ":"]
unfoldable pub label : Parser (Option Spot)
label = maybe sees_name (before name mark.Colon)

-- "-" | NAME
unfoldable pub next_state : Parser NextState
next_state = either (sees mark.Minus) (made Same (expect mark.Minus)) (made To name)

abbrev pub next_with : Spelling × NextState → Terminator
next_with p = Next p.0 p.1

-- "nextstate" ("-" | NAME) end
unfoldable pub next : Parser Terminator
next = made next_with (expect mark.NextState ⊗ ended next_state)

-- "stop" end
unfoldable pub stop : Parser Terminator
stop = made Stop (ended (expect mark.Stop))

abbrev pub join_with : Spelling × Spot → Terminator
join_with p = Join p.0 p.1

-- "join" NAME end
unfoldable pub join : Parser Terminator
join = made join_with (expect mark.Join ⊗ ended name)

-- terminator = "nextstate" ("-" | NAME) end | "stop" end | "join" NAME end
unfoldable pub terminator : Parser Terminator
terminator = either (sees mark.NextState) next (either (sees mark.Stop) stop join)

abbrev pub terminator_marks : List Mark
terminator_marks = mark.NextState ∷ mark.Stop ∷ mark.Join ∷ []

unfoldable pub begins_terminator : Words → Bool
begins_terminator i = sees_one terminator_marks i

-- ---- statements, over the reading of actions

abbrev pub action_marks : List Mark
action_marks = mark.Task ∷ mark.Output ∷ mark.Set ∷ mark.Reset ∷ mark.Create ∷ mark.Decision ∷ []

unfoldable pub begins_action : Words → Bool
begins_action i = sees_one action_marks i

unfoldable pub begins_statement : Words → Bool
begins_statement i = sees_name i || (begins_action i || begins_terminator i)

abbrev pub ending_with : Option Spot → Terminator → Ending
ending_with l t = record { label = l; terminator = t }

abbrev pub statement_with : Option Spot → Action → Statement
statement_with l a = record { label = l; action = a }

-- the statements from here on, where some are read. The number bounds the turns: each takes a word.
unfoldable pub steps_from : Parser Action → ℕ → List Statement → Parser (List Statement × Option Ending)
steps_from act zero found = pure (found, None)
steps_from act (suc n) found = λ i.
    if begins_statement i then (do
      named ← label
      λ k. if begins_terminator k then (do
        last ← terminator
        pure (found, Some (ending_with named last))) k
          else (do
            done ← act
            steps_from act n (found ++ statement_with named done ∷ [])) k) i
    else Ok ((found, None), i)

abbrev pub steps : Parser Action → Parser (List Statement × Option Ending)
steps act = λ i. steps_from act (length i) [] i

abbrev pub steps_with : List Statement × Option Ending → Transition
steps_with p = Steps (actions_of p.0) p.1

-- {[NAME ":"] action} [[NAME ":"] terminator]
abbrev pub trans_of : Parser Action → Parser Transition
trans_of act = made steps_with (steps act)

-- ---- decisions, over the reading of transitions

abbrev pub part_with : List Answer × Transition → Part
part_with p = record { answers = p.0; transition = p.1 }

-- "(" answer {"," answer} ")" ":" trans, if it stands next
unfoldable pub part : ℕ → Parser Transition → Parser (Option Part)
part depth inner = maybe (sees mark.Open) (made part_with (enclosed (answer depth) ⊗ behind mark.Colon inner))

-- ["else" ":" trans]
unfoldable pub otherwise : Parser Transition → Parser (Option Transition)
otherwise inner = maybe (sees mark.Else) (behind mark.Else (behind mark.Colon inner))

abbrev pub decision_with : Spelling × (Expr × (List Part × Option Transition)) → Action
decision_with p = Decision p.0 p.1.0 (parts_of p.1.1.0) (else_of p.1.1.1)

-- "decision" expr end {"(" answer {"," answer} ")" ":" trans} ["else" ":" trans] "enddecision" end
unfoldable pub decision_of : ℕ → Parser Transition → Parser Action
decision_of depth inner =
    made decision_with
    (expect mark.Decision ⊗ (ended (expr depth) ⊗ (repeated (part depth inner) ⊗ ended (before (otherwise inner) mark.EndDecision))))

-- ---- as many parentheses and decisions as this may stand inside each other

-- one of the actions, over the reading of decisions
unfoldable pub action_of : ℕ → Parser Action → Parser Action
action_of depth inner =
    either (sees mark.Task) (task depth)
    (either (sees mark.Output) (output depth)
    (either (sees mark.Set) (set depth)
    (either (sees mark.Reset) (reset depth)
    (either (sees mark.Create) (create depth)
    (either (sees mark.Decision) inner refuse)))))

unfoldable pub decision : ℕ → Parser Action
decision zero = too_deep
decision (suc depth) = decision_of depth (trans_of (action_of depth (decision depth)))

abbrev pub action : ℕ → Parser Action
action depth = action_of depth (decision depth)

-- trans = {[NAME ":"] action} [[NAME ":"] terminator]
abbrev pub trans : ℕ → Parser Transition
trans depth = trans_of (action depth)
