-- What is written for the erasure of a transition spells it.
use Rattle.std.proofs.Common.{refl, ℕ, zero, suc, Option, option_map, ◌∷◌, map}
use Rattle.sdl_tree.specs.declared.mark.Mark.TheVariants as mark
use Rattle.sdl_tree.specs.Canonical.{fixed, optional, end_words, assignment_words, destination_words, clause_words, keys_words, answer_words, label_words, next_state_words, terminator_words, ending_words, transition_words, actions_words, action_words, parts_words, otherwise_words, start_words}
use Rattle.sdl_tree.specs.Erased.{plain, erased_name, erased_applied, erased_assignment, erased_destination, erased_clause, erased_answer, erased_next_state, erased_terminator, erased_ending, erased_transition, erased_actions, erased_action, erased_parts, erased_otherwise, erased_start}
use Rattle.sdl_tree.specs.Spells.Behaviour.{SpellsAssignment, SpellsDestination, SpellsClause, SpellsKeys, SpellsAnswer, SpellsLabel, SpellsNextState, SpellsTerminator, SpellsEnding, SpellsStatement, SpellsTransBy, SpellsPart, SpellsElse, SpellsAction, SpellsTrans, SpellsStart}
use Rattle.sdl_tree.specs.Spells.Expressions.{operator_mark}
use Rattle.sdl_tree.specs.Spells.Parts.{Optional, Repeated}
use Rattle.sdl_tree.specs.Tree.{Expr, Applied, Answer, Value, Range, Compared, NextState, Same, To, Terminator, Next, Stop, Join, Transition, Steps, Actions, NoAction, AndAction, Action, Task, Output, Set, Reset, Create, Decision, Parts, NoPart, AndPart, Otherwise, NoElse, Else, statements_in, parts_in, else_in}
use Rattle.sdl_tree.specs.Words.{Words, Fixed}
use Rattle.sdl_tree.proofs.Written.{Writes, mark_written, name_written, both_written, behind_written, before_written, ended_written, end_written, optional_written, separated_written, enclosed_written}
use Rattle.sdl_tree.proofs.WrittenExpressions.{expr_written, applied_written}

module _ (depth : ℕ) where
  assignment_written : Writes erased_assignment (SpellsAssignment depth) assignment_words
  assignment_written = record {
    writes = λ a i j k s. (both_written name_written (behind_written (expr_written depth) mark.Assign)).writes (a.variable, a.value) i j k s;
  }

  destination_written : Writes erased_destination (SpellsDestination depth) destination_words
  destination_written = record {
    writes = λ d i j k s. (both_written (mark_written mark.To) (expr_written depth)).writes (d.word, d.value) i j k s;
  }

  clause_on : (time : Option Expr) (timer : Applied) (i j k : Words) → SpellsClause depth (record { time = time; timer = timer }) i j →
      SpellsClause depth (erased_clause (record { time = time; timer = timer })) (clause_words (erased_clause (record { time = time; timer = timer })) k) k
  clause_on time timer i j k s =
      (behind_written (before_written (both_written (optional_written (before_written (expr_written depth) mark.Comma)) (applied_written depth)) mark.Close) mark.Open).writes
      (time, timer) i j k s

  clause_written : Writes erased_clause (SpellsClause depth) clause_words
  clause_written = record { writes = λ c i j k s. clause_on c.time c.timer i j k s }

  keys_written : Writes (map erased_applied) (SpellsKeys depth) keys_words
  keys_written = record { writes = (enclosed_written (applied_written depth)).writes }

  answer_on : (a : Answer) (i j k : Words) → SpellsAnswer depth a i j → SpellsAnswer depth (erased_answer a) (answer_words (erased_answer a) k) k
  answer_on (Value e) i j k s = (expr_written depth).writes e i j k s
  answer_on (Range e f) i j k s = (both_written (expr_written depth) (behind_written (expr_written depth) mark.Colon)).writes (e, f) i j k s
  answer_on (Compared o w e) i j k s = (s.0, (both_written (mark_written (operator_mark o)) (expr_written depth)).writes (w, e) i j k s.1)

  answer_written : Writes erased_answer (SpellsAnswer depth) answer_words
  answer_written = record { writes = answer_on }

pub label_written : Writes (option_map erased_name) SpellsLabel (optional label_words)
label_written = record { writes = (optional_written (before_written name_written mark.Colon)).writes }

next_state_on : (n : NextState) (i j k : Words) → SpellsNextState n i j → SpellsNextState (erased_next_state n) (next_state_words (erased_next_state n) k) k
next_state_on (Same w) i j k s = refl
next_state_on (To x) i j k s = refl

next_state_written : Writes erased_next_state SpellsNextState next_state_words
next_state_written = record { writes = next_state_on }

terminator_on : (t : Terminator) (i j k : Words) → SpellsTerminator t i j → SpellsTerminator (erased_terminator t) (terminator_words (erased_terminator t) k) k
terminator_on (Next w state) i j k s =
    (both_written (mark_written mark.NextState) (ended_written next_state_written)).writes (w, state) i j k s
terminator_on (Stop w) i j k s = (ended_written (mark_written mark.Stop)).writes w i j k s
terminator_on (Join w label) i j k s = (both_written (mark_written mark.Join) (ended_written name_written)).writes (w, label) i j k s

terminator_written : Writes erased_terminator SpellsTerminator terminator_words
terminator_written = record { writes = terminator_on }

pub ending_written : Writes erased_ending SpellsEnding ending_words
ending_written = record {
  writes = λ e i j k s. (both_written label_written terminator_written).writes (e.label, e.terminator) i j k s;
}

module _ {Act : Action → Words → Words → Type 0} (act : Writes erased_action Act action_words) where
  actions_written : (actions : Actions) (i j k : Words) → Repeated (SpellsStatement Act) (statements_in actions) i j →
      Repeated (SpellsStatement Act) (statements_in (erased_actions actions)) (actions_words (erased_actions actions) k) k
  actions_written NoAction i j k s = refl
  actions_written (AndAction label action actions) i j k s =
      let rest = actions_words (erased_actions actions) k in
      (rest, (both_written label_written act).writes (label, action) i s.0 rest s.1, actions_written actions s.0 j k s.2)

  trans_on : (t : Transition) (i j k : Words) → SpellsTransBy Act t i j → SpellsTransBy Act (erased_transition t) (transition_words (erased_transition t) k) k
  trans_on (Steps actions ending) i j k s =
      let rest = optional ending_words (option_map erased_ending ending) k in
      (rest, actions_written actions i s.0 rest s.1, (optional_written ending_written).writes ending s.0 j k s.2)

  pub trans_written : Writes erased_transition (SpellsTransBy Act) transition_words
  trans_written = record { writes = trans_on }

module _ {Trans : Transition → Words → Words → Type 0} (depth : ℕ) (trans : Writes erased_transition Trans transition_words) where
  parts_written : (ps : Parts) (i j k : Words) → Repeated (SpellsPart depth Trans) (parts_in ps) i j →
      Repeated (SpellsPart depth Trans) (parts_in (erased_parts ps)) (parts_words (erased_parts ps) k) k
  parts_written NoPart i j k s = refl
  parts_written (AndPart answers transition ps) i j k s =
      let rest = parts_words (erased_parts ps) k in (
        rest,
        (both_written (enclosed_written (answer_written depth)) (behind_written trans mark.Colon)).writes (answers, transition) i s.0 rest s.1,
        parts_written ps s.0 j k s.2,
      )

  otherwise_written : (o : Otherwise) (i j k : Words) → Optional (SpellsElse Trans) (else_in o) i j →
      Optional (SpellsElse Trans) (else_in (erased_otherwise o)) (otherwise_words (erased_otherwise o) k) k
  otherwise_written NoElse i j k s = refl
  otherwise_written (Else transition) i j k s = (behind_written (behind_written trans mark.Colon) mark.Else).writes transition i j k s

action_by : (depth : ℕ) → ((a : Action) (i j k : Words) → SpellsAction depth a i j → SpellsAction depth (erased_action a) (action_words (erased_action a) k) k) →
    Writes erased_action (SpellsAction depth) action_words
action_by depth each = record { writes = each }

action_on : (depth : ℕ) (a : Action) (i j k : Words) → SpellsAction depth a i j → SpellsAction depth (erased_action a) (action_words (erased_action a) k) k
action_on depth (Task w assignments) i j k s =
    (both_written (mark_written mark.Task) (ended_written (separated_written (assignment_written depth)))).writes (w, assignments) i j k s
action_on depth (Output w outputs destination) i j k s =
    (both_written (mark_written mark.Output) (ended_written (both_written (separated_written (applied_written depth)) (optional_written (destination_written depth))))).writes
    (w, (outputs, destination)) i j k s
action_on depth (Set w clauses) i j k s =
    (both_written (mark_written mark.Set) (ended_written (separated_written (clause_written depth)))).writes (w, clauses) i j k s
action_on depth (Reset w groups) i j k s =
    (both_written (mark_written mark.Reset) (ended_written (separated_written (keys_written depth)))).writes (w, groups) i j k s
action_on depth (Create w process) i j k s =
    (both_written (mark_written mark.Create) (ended_written (applied_written depth))).writes (w, process) i j k s
action_on zero (Decision w question parts otherwise) i j k s = absurd s
action_on (suc depth) (Decision w question parts otherwise) i j k s =
    let trans = trans_written (action_by depth (action_on depth)) in
    let close = fixed mark.EndDecision ∷ end_words k in
    let others = otherwise_words (erased_otherwise otherwise) close in
    let rest = parts_words (erased_parts parts) others in
    let d = s.2 in
    let behind = d.2 in
    let last = behind.2 in (
      _,
      refl,
      (
        rest,
        (ended_written (expr_written depth)).writes question s.0 d.0 rest d.1,
        (
          others,
          parts_written depth trans parts d.0 behind.0 others behind.1,
          (
            end_words k,
            (plain, otherwise_written depth trans otherwise behind.0 (Fixed mark.EndDecision last.1.0 ∷ last.0) close last.1.1),
            end_written k,
          ),
        ),
      ),
    )

pub transition_written : (depth : ℕ) → Writes erased_transition (SpellsTrans depth) transition_words
transition_written depth = record { writes = (trans_written (action_by depth (action_on depth))).writes }

pub start_written : (depth : ℕ) → Writes erased_start (SpellsStart depth) start_words
start_written depth = record {
  writes = λ s i j k spelled.
      (both_written (ended_written (mark_written mark.Start)) (transition_written depth)).writes (s.word, s.transition) i j k spelled;
}
