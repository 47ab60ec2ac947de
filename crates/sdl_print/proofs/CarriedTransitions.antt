-- Where known words spell a transition or a state, what is written for it can be written.
use Rattle.std.proofs.Common.{refl, ℕ, zero, suc, option_map, ◌∷◌, map, inl, inr}
use Rattle.sdl_tree.specs.declared.mark.Mark.TheVariants as mark
use Rattle.sdl_tree.specs.Canonical.{fixed, optional, end_words, assignment_words, destination_words, clause_words, keys_words, answer_words, label_words, next_state_words, terminator_words, ending_words, transition_words, actions_words, action_words, parts_words, otherwise_words, start_words, in1_words, ins_words, saved_words, condition_words, priority_words, stimulus_words, states_words, body_part_words}
use Rattle.sdl_tree.specs.Erased.{erased_name, erased_number, erased_applied, erased_assignment, erased_destination, erased_clause, erased_answer, erased_next_state, erased_terminator, erased_ending, erased_transition, erased_actions, erased_action, erased_parts, erased_otherwise, erased_start, erased_input, erased_inputs, erased_saved, erased_condition, erased_stimulus, erased_states, erased_body_part}
use Rattle.sdl_tree.specs.Spells.Behaviour.{SpellsAssignment, SpellsDestination, SpellsClause, SpellsKeys, SpellsAnswer, SpellsLabel, SpellsNextState, SpellsTerminator, SpellsEnding, SpellsStatement, SpellsTransBy, SpellsPart, SpellsElse, SpellsAction, SpellsTrans, SpellsStart, SpellsIn1, SpellsIns, SpellsSaved, SpellsCondition, SpellsPriority, SpellsStimulus, SpellsStates, SpellsEndStateName, SpellsEndState, SpellsEndConnection, SpellsBodyPart}
use Rattle.sdl_tree.specs.Spells.Expressions.{operator_mark}
use Rattle.sdl_tree.specs.Spells.Parts.{Optional, Repeated}
use Rattle.sdl_tree.specs.Tree.{Answer, Value, Range, Compared, NextState, Same, To, Terminator, Next, Stop, Join, Transition, Steps, Actions, NoAction, AndAction, Action, Task, Output, Set, Reset, Create, Decision, Parts, NoPart, AndPart, Otherwise, NoElse, Else, Inputs, InputList, InputAll, Saved, SaveList, SaveAll, Stimulus, InputPart, PriorityInput, SavePart, ContinuousSignal, States, StateList, StateAll, BodyPart, StatePart, FreeAction, statements_in, parts_in, else_in}
use Rattle.sdl_tree.specs.Words.{Spot, Words, Fixed}
use Rattle.sdl_print.proofs.Known.{AreKnown}
use Rattle.sdl_print.proofs.Carried.{Carried, Carries, Drops, known, mark_carried, name_carried, names_carried, number_carried, end_dropped, closing_known, both_carried, behind_carried, before_carried, followed_carried, ended_carried, optional_carried, unless_carried, wherever_carried, separated_carried, repeated_carried, enclosed_carried, in_parentheses_carried, sigs_carried}
use Rattle.sdl_print.proofs.CarriedExpressions.{expr_carried, applied_carried}

-- ---- transitions

module _ (depth : ℕ) where
  assignment_carried : Carries erased_assignment (SpellsAssignment depth) assignment_words
  assignment_carried = record {
    carries = λ a i j s w. (both_carried name_carried (behind_carried (expr_carried depth) mark.Assign)).carries (a.variable, a.value) i j s w;
  }

  destination_carried : Carries erased_destination (SpellsDestination depth) destination_words
  destination_carried = record { carries = λ d i j s w. (both_carried (mark_carried mark.To) (expr_carried depth)).carries (d.word, d.value) i j s w }

  clause_carried : Carries erased_clause (SpellsClause depth) clause_words
  clause_carried = record {
    carries = λ c i j s w.
        let time = optional_carried (before_carried (expr_carried depth) mark.Comma) in
        (behind_carried (before_carried (both_carried time (applied_carried depth)) mark.Close) mark.Open).carries (c.time, c.timer) i j s w;
  }

  keys_carried : Carries (map erased_applied) (SpellsKeys depth) keys_words
  keys_carried = record { carries = (enclosed_carried (applied_carried depth)).carries }

  answer_on : (a : Answer) (i j : Words) → SpellsAnswer depth a i j → AreKnown i → Carried j (answer_words (erased_answer a))
  answer_on (Value e) i j s w = (expr_carried depth).carries e i j s w
  answer_on (Range e f) i j s w = (both_carried (expr_carried depth) (behind_carried (expr_carried depth) mark.Colon)).carries (e, f) i j s w
  answer_on (Compared o sp e) i j s w = (both_carried (mark_carried (operator_mark o)) (expr_carried depth)).carries (sp, e) i j s.1 w

  answer_carried : Carries erased_answer (SpellsAnswer depth) answer_words
  answer_carried = record { carries = answer_on }

label_carried : Carries (option_map erased_name) SpellsLabel (optional label_words)
label_carried = record { carries = (optional_carried (before_carried name_carried mark.Colon)).carries }

next_state_on : (n : NextState) (i j : Words) → SpellsNextState n i j → AreKnown i → Carried j (next_state_words (erased_next_state n))
next_state_on (Same sp) i j s w = (mark_carried mark.Minus).carries sp i j s w
next_state_on (To x) i j s w = name_carried.carries x i j s w

next_state_carried : Carries erased_next_state SpellsNextState next_state_words
next_state_carried = record { carries = next_state_on }

terminator_on : (t : Terminator) (i j : Words) → SpellsTerminator t i j → AreKnown i → Carried j (terminator_words (erased_terminator t))
terminator_on (Next sp state) i j s w = (both_carried (mark_carried mark.NextState) (ended_carried next_state_carried)).carries (sp, state) i j s w
terminator_on (Stop sp) i j s w = (ended_carried (mark_carried mark.Stop)).carries sp i j s w
terminator_on (Join sp label) i j s w = (both_carried (mark_carried mark.Join) (ended_carried name_carried)).carries (sp, label) i j s w

terminator_carried : Carries erased_terminator SpellsTerminator terminator_words
terminator_carried = record { carries = terminator_on }

ending_carried : Carries erased_ending SpellsEnding ending_words
ending_carried = record { carries = λ e i j s w. (both_carried label_carried terminator_carried).carries (e.label, e.terminator) i j s w }

module _ {Act : Action → Words → Words → Type 0} (act : Carries erased_action Act action_words) where
  actions_carried : (actions : Actions) (i j : Words) → Repeated (SpellsStatement Act) (statements_in actions) i j → AreKnown i →
      Carried j (actions_words (erased_actions actions))
  actions_carried NoAction i j s w = (known s w, λ k v. v)
  actions_carried (AndAction label action actions) i j s w =
      let a = (both_carried label_carried act).carries (label, action) i s.0 s.1 w in
      let b = actions_carried actions s.0 j s.2 a.0 in
      (b.0, λ k v. a.1 (actions_words (erased_actions actions) k) (b.1 k v))

  trans_on : (t : Transition) (i j : Words) → SpellsTransBy Act t i j → AreKnown i → Carried j (transition_words (erased_transition t))
  trans_on (Steps actions ending) i j s w =
      let a = actions_carried actions i s.0 s.1 w in
      let b = (optional_carried ending_carried).carries ending s.0 j s.2 a.0 in
      (b.0, λ k v. a.1 (optional ending_words (option_map erased_ending ending) k) (b.1 k v))

  trans_carried : Carries erased_transition (SpellsTransBy Act) transition_words
  trans_carried = record { carries = trans_on }

module _ {Trans : Transition → Words → Words → Type 0} (depth : ℕ) (trans : Carries erased_transition Trans transition_words) where
  parts_carried : (ps : Parts) (i j : Words) → Repeated (SpellsPart depth Trans) (parts_in ps) i j → AreKnown i → Carried j (parts_words (erased_parts ps))
  parts_carried NoPart i j s w = (known s w, λ k v. v)
  parts_carried (AndPart answers transition ps) i j s w =
      let a = (both_carried (enclosed_carried (answer_carried depth)) (behind_carried trans mark.Colon)).carries (answers, transition) i s.0 s.1 w in
      let b = parts_carried ps s.0 j s.2 a.0 in
      (b.0, λ k v. a.1 (parts_words (erased_parts ps) k) (b.1 k v))

  otherwise_carried : (o : Otherwise) (i j : Words) → Optional (SpellsElse Trans) (else_in o) i j → AreKnown i → Carried j (otherwise_words (erased_otherwise o))
  otherwise_carried NoElse i j s w = (known s w, λ k v. v)
  otherwise_carried (Else transition) i j s w = (behind_carried (behind_carried trans mark.Colon) mark.Else).carries transition i j s w

action_by : (depth : ℕ) → ((a : Action) (i j : Words) → SpellsAction depth a i j → AreKnown i → Carried j (action_words (erased_action a))) →
    Carries erased_action (SpellsAction depth) action_words
action_by depth each = record { carries = each }

action_on : (depth : ℕ) (a : Action) (i j : Words) → SpellsAction depth a i j → AreKnown i → Carried j (action_words (erased_action a))
action_on depth (Task sp assignments) i j s w =
    (both_carried (mark_carried mark.Task) (ended_carried (separated_carried (assignment_carried depth)))).carries (sp, assignments) i j s w
action_on depth (Output sp outputs destination) i j s w =
    let to = optional_carried (destination_carried depth) in
    (both_carried (mark_carried mark.Output) (ended_carried (both_carried (separated_carried (applied_carried depth)) to))).carries (sp, (outputs, destination)) i j s w
action_on depth (Set sp clauses) i j s w =
    (both_carried (mark_carried mark.Set) (ended_carried (separated_carried (clause_carried depth)))).carries (sp, clauses) i j s w
action_on depth (Reset sp groups) i j s w =
    (both_carried (mark_carried mark.Reset) (ended_carried (separated_carried (keys_carried depth)))).carries (sp, groups) i j s w
action_on depth (Create sp process) i j s w = (both_carried (mark_carried mark.Create) (ended_carried (applied_carried depth))).carries (sp, process) i j s w
action_on zero (Decision sp question parts otherwise) i j s w = absurd s
action_on (suc depth) (Decision sp question parts otherwise) i j s w =
    let trans = trans_carried (action_by depth (action_on depth)) in
    let d = s.2 in
    let behind = d.2 in
    let last = behind.2 in
    let a = (ended_carried (expr_carried depth)).carries question s.0 d.0 d.1 (known s.1 w).1 in
    let b = parts_carried depth trans parts d.0 behind.0 behind.1 a.0 in
    let c = otherwise_carried depth trans otherwise behind.0 (Fixed mark.EndDecision last.1.0 ∷ last.0) last.1.1 b.0 in (
      end_dropped.drops last.0 j last.2 c.0.1,
      λ k v.
          let close = fixed mark.EndDecision ∷ end_words k in
          let others = otherwise_words (erased_otherwise otherwise) close in
          (refl, a.1 (parts_words (erased_parts parts) others) (b.1 others (c.1 close (refl, (refl, v))))),
    )

transition_carried : (depth : ℕ) → Carries erased_transition (SpellsTrans depth) transition_words
transition_carried depth = record { carries = (trans_carried (action_by depth (action_on depth))).carries }

pub start_carried : (depth : ℕ) → Carries erased_start (SpellsStart depth) start_words
start_carried depth = record {
  carries = λ t i j s w. (both_carried (ended_carried (mark_carried mark.Start)) (transition_carried depth)).carries (t.word, t.transition) i j s w;
}

-- ---- states

in1_carried : Carries erased_input SpellsIn1 in1_words
in1_carried = record {
  carries = λ x i j s w. (both_carried name_carried (in_parentheses_carried (optional_carried name_carried))).carries (x.signal, x.variables) i j s w;
}

ins_on : (x : Inputs) (i j : Words) → SpellsIns x i j → AreKnown i → Carried j (ins_words (erased_inputs x))
ins_on (InputList inputs) i j s w = (separated_carried in1_carried).carries inputs i j s w
ins_on (InputAll asterisk) i j s w = (mark_carried mark.Asterisk).carries asterisk i j s w

ins_carried : Carries erased_inputs SpellsIns ins_words
ins_carried = record { carries = ins_on }

saved_on : (x : Saved) (i j : Words) → SpellsSaved x i j → AreKnown i → Carried j (saved_words (erased_saved x))
saved_on (SaveList items) i j s w = sigs_carried.carries items i j s w
saved_on (SaveAll asterisk) i j s w = (mark_carried mark.Asterisk).carries asterisk i j s w

saved_carried : Carries erased_saved SpellsSaved saved_words
saved_carried = record { carries = saved_on }

condition_carried : (depth : ℕ) → Carries erased_condition (SpellsCondition depth) condition_words
condition_carried depth = record {
  carries = λ c i j s w. (both_carried (mark_carried mark.Provided) (ended_carried (expr_carried depth))).carries (c.word, c.condition) i j s w;
}

priority_carried : Carries erased_number SpellsPriority priority_words
priority_carried = record { carries = (behind_carried (ended_carried number_carried) mark.Priority).carries }

stimulus_on : (depth : ℕ) (x : Stimulus) (i j : Words) → SpellsStimulus depth x i j → AreKnown i → Carried j (stimulus_words (erased_stimulus x))
stimulus_on depth (InputPart sp inputs condition transition) i j s w =
    let body = both_carried (wherever_carried (condition_carried depth) mark.Provided) (transition_carried depth) in
    (both_carried (mark_carried mark.Input) (both_carried (ended_carried ins_carried) body)).carries (sp, (inputs, (condition, transition))) i j s w
stimulus_on depth (PriorityInput sp inputs transition) i j s w =
    let body = both_carried (ended_carried (separated_carried in1_carried)) (unless_carried (transition_carried depth) mark.Provided) in
    (both_carried (mark_carried mark.Priority) (behind_carried body mark.Input)).carries (sp, (inputs, transition)) i j s w
stimulus_on depth (SavePart sp saved) i j s w = (both_carried (mark_carried mark.Save) (ended_carried saved_carried)).carries (sp, saved) i j s w
stimulus_on depth (ContinuousSignal sp condition priority transition) i j s w =
    let body = both_carried (wherever_carried priority_carried mark.Priority) (transition_carried depth) in
    (both_carried (mark_carried mark.Provided) (both_carried (ended_carried (expr_carried depth)) body)).carries (sp, (condition, (priority, transition))) i j s w

stimulus_carried : (depth : ℕ) → Carries erased_stimulus (SpellsStimulus depth) stimulus_words
stimulus_carried depth = record { carries = stimulus_on depth }

states_on : (x : States) (i j : Words) → SpellsStates x i j → AreKnown i → Carried j (states_words (erased_states x))
states_on (StateList names) i j s w = names_carried.carries names i j s w
states_on (StateAll asterisk except) i j s w =
    (both_carried (mark_carried mark.Asterisk) (in_parentheses_carried name_carried)).carries (asterisk, except) i j s w

states_carried : Carries erased_states SpellsStates states_words
states_carried = record { carries = states_on }

end_state_name_known : (states : States) (i j : Words) → SpellsEndStateName states i j → AreKnown i → AreKnown j
end_state_name_known (StateList names) i j (inl s) w = known s w
end_state_name_known (StateList names) i j (inr s) w = (known s.4 w).1
end_state_name_known (StateAll asterisk except) i j s w = known s w

end_state_known : (states : States) (i j : Words) → SpellsEndState states i j → AreKnown i → AreKnown j
end_state_known states i j (inl s) w = known s w
end_state_known states i j (inr s) w = end_dropped.drops s.2 j s.5 (end_state_name_known states s.1 s.2 s.4 (known s.3 w).1)

end_state_dropped : (states : States) → Drops (SpellsEndState states) (λ j. fixed mark.EndState ∷ end_words j)
end_state_dropped states = record { drops = end_state_known states; writes = λ k v. (refl, (refl, v)) }

end_connection_known : (label : Spot) (i j : Words) → SpellsEndConnection label i j → AreKnown i → AreKnown j
end_connection_known label i j (inl s) w = known s w
end_connection_known label i j (inr s) w = closing_known mark.EndConnection label.text i j s w

end_connection_dropped : (label : Spot) → Drops (SpellsEndConnection label) (λ j. fixed mark.EndConnection ∷ end_words j)
end_connection_dropped label = record { drops = end_connection_known label; writes = λ k v. (refl, (refl, v)) }

body_part_on : (depth : ℕ) (x : BodyPart) (i j : Words) → SpellsBodyPart depth x i j → AreKnown i → Carried j (body_part_words (erased_body_part x))
body_part_on depth (StatePart states stimuli) i j s w =
    let both = both_carried (ended_carried states_carried) (repeated_carried (stimulus_carried depth)) in
    (behind_carried (followed_carried both (end_state_dropped states)) mark.State).carries (states, stimuli) i j s w
body_part_on depth (FreeAction sp label transition) i j s w =
    let both = both_carried (before_carried name_carried mark.Colon) (transition_carried depth) in
    (both_carried (mark_carried mark.Connection) (followed_carried both (end_connection_dropped label))).carries (sp, (label, transition)) i j s w

pub body_part_carried : (depth : ℕ) → Carries erased_body_part (SpellsBodyPart depth) body_part_words
body_part_carried depth = record { carries = body_part_on depth }
