use Rattle.std.proofs.Common.{◌≡◌, ◌∙◌, ◌+◌, ◌++◌, ◌∷◌, IfOk, List, OnOk, ap, append-nil, append_assoc, drop, map, option_map, subst, sym}
use Rattle.std.proofs.lemmas.List.{at_drop_all, at_drop_more}
use Rattle.sdl_tree.specs.declared.behaviour.ActionStatement.{ActionStatement}
use Rattle.sdl_tree.specs.declared.behaviour.AnswerPart.{AnswerPart}
use Rattle.sdl_tree.specs.declared.behaviour.Transition.{out-Transition}
use Rattle.sdl_tree.specs.Tree.{actions_of, else_of, parts_of}
use Rattle.sdl_tree.specs.Views.{action_value, answer_part_value, ending_value, statement_value, transition_value}
use Rattle.build_flow.specs.Listed.{found_listed, turns_of}
use Rattle.build_flow.specs.Turns.{action_found, action_turn, actions_found, actions_turn, ending_found, ending_turn, otherwise_found, otherwise_turn, parts_found, parts_turn, sooner, statement_found, statement_turn, transition_found, transition_turn}
use Rattle.build_flow.proofs.StepLemmas.{sooner-none, sooner-three}
use Rattle.build_flow.proofs.TreeLemmas.{decision_tree, then, transition_tree}
use Rattle.build_flow.proofs.walk.+transition.Goals as goal

pub walk_transition-returns-clause-turn : goal.walk_transition-returns-clause-turn
walk_transition-returns-clause-turn t c =
    let steps = out-Transition c.args.transition.now in
    let turns = turns_of c.args.entries in
    let comes = c.args.comes in
    let ending = option_map ending_value steps.terminator in
    let actions = λ (xs : List ActionStatement). actions_turn turns (actions_of (map statement_value xs)) comes in
    c.in_ok-passed.ensures.turn
    ∙ ap (ending_turn ending) (c.in_ok-comes_to_end.ensures.turn ∙ ap actions c.deref.ensures.value)
    ∙ ap (λ u. transition_turn turns u comes) (sym (transition_tree c.args.transition.now))

pub walk_transition-returns-clause-found : goal.walk_transition-returns-clause-found
walk_transition-returns-clause-found t c =
    let steps = out-Transition c.args.transition.now in
    let turns = turns_of c.args.entries in
    let comes = c.args.comes in
    let before = found_listed c.args.found.now.items in
    let ending = option_map ending_value steps.terminator in
    let turn = λ (xs : List ActionStatement). actions_turn turns (actions_of (map statement_value xs)) comes in
    let actions = λ (xs : List ActionStatement). actions_found turns (actions_of (map statement_value xs)) comes in
    then before (found_listed c.statements.new.found.items) (found_listed c.ending.new.found.items)
    (actions steps.actions.items) (ending_found turns ending (turn steps.actions.items))
    (c.in_ok-comes_to_end.ensures.found ∙ ap (λ xs. before ++ actions xs) c.deref.ensures.value)
    (c.in_ok-passed.ensures.found
    ∙ ap (λ here. found_listed c.statements.new.found.items ++ ending_found turns ending here)
    (c.in_ok-comes_to_end.ensures.turn ∙ ap turn c.deref.ensures.value))
    ∙ ap (λ u. before ++ transition_found turns u comes) (sym (transition_tree c.args.transition.now))

pub action-returns-in_ok-by_else-in-Decision-clause-turn : goal.action-returns-in_ok-by_else-in-Decision-clause-turn
action-returns-in_ok-by_else-in-Decision-clause-turn t c =
    let d = c.in-Decision in
    let turns = turns_of c.args.entries in
    let comes = c.args.comes in
    let parts = λ (xs : List AnswerPart). parts_turn turns (parts_of (map answer_part_value xs)) comes in
    let otherwise = otherwise_turn turns (else_of (option_map transition_value d.otherwise)) comes in
    rw d.is (c.sooner.ensures
    ∙ ap (λ turn. sooner turn c.in_ok-by_else-in-Decision.by_else)
    (c.in_ok-by_part-in-Decision.ensures.turn ∙ ap parts c.deref.ensures.value)
    ∙ ap (sooner (parts d.parts.items)) c.in_ok-by_else-in-Decision.ensures.turn
    ∙ ap (λ a. action_turn turns a comes) (sym (decision_tree d.word d.question d.parts d.otherwise)))

pub action-returns-in_ok-by_else-in-Decision-clause-found : goal.action-returns-in_ok-by_else-in-Decision-clause-found
action-returns-in_ok-by_else-in-Decision-clause-found t c =
    let d = c.in-Decision in
    let turns = turns_of c.args.entries in
    let comes = c.args.comes in
    let before = found_listed c.args.found.now.items in
    let parts = λ (xs : List AnswerPart). parts_found turns (parts_of (map answer_part_value xs)) comes in
    let otherwise = otherwise_found turns (else_of (option_map transition_value d.otherwise)) comes in
    rw d.is (then before (found_listed c.answer_parts.new.found.items)
    (found_listed c.else_part.new.found.items) (parts d.parts.items) otherwise
    (c.in_ok-by_part-in-Decision.ensures.found ∙ ap (λ xs. before ++ parts xs) c.deref.ensures.value)
    c.in_ok-by_else-in-Decision.ensures.found
    ∙ ap (λ a. before ++ action_found turns a comes) (sym (decision_tree d.word d.question d.parts d.otherwise)))

pub statements-loop-one-preserved : goal.statements-loop-one-preserved
statements-loop-one-preserved t c =
    let turns = turns_of c.args.entries in
    let statements = c.args.statements.now in
    let i = c.loop-one.one-index in
    let one = c.one-item.result in
    let comes = c.loop-one.here in
    let rest = actions_of (map statement_value (drop (i + 1) statements)) in
    let goes_on = statement_turn turns (statement_value one) comes in
    let turn = λ (xs : List ActionStatement). actions_turn turns (actions_of (map statement_value xs)) comes in
    let found = λ (xs : List ActionStatement). actions_found turns (actions_of (map statement_value xs)) comes in
    let turn_more : turn (drop i statements) ≡ actions_turn turns rest goes_on =
    at_drop_more turn statements i one c.loop-one-test.true
    ∙ ap (λ x. turn (x ∷ drop (i + 1) statements)) (sym c.one-item.is) in
    let found_more : found (drop i statements)
    ≡ statement_found turns (statement_value one) comes ++ actions_found turns rest goes_on =
    at_drop_more found statements i one c.loop-one-test.true
    ∙ ap (λ x. found (x ∷ drop (i + 1) statements)) (sym c.one-item.is) in
    let before = found_listed c.loop-one.found.items in
    record {
      turn = ap (actions_turn turns rest) c.in_ok-here.ensures.turn ∙ sym turn_more ∙ c.loop-one.invariant.turn;
      found =
          ap (λ here. found_listed c.statement.new.found.items ++ actions_found turns rest here)
          c.in_ok-here.ensures.turn
          ∙ ap (λ list. list ++ actions_found turns rest goes_on) c.in_ok-here.ensures.found
          ∙ append_assoc before (statement_found turns (statement_value one) comes) (actions_found turns rest goes_on)
          ∙ ap (λ list. before ++ list) (sym found_more)
          ∙ c.loop-one.invariant.found;
    }

pub answer_parts-loop-part-preserved : goal.answer_parts-loop-part-preserved
answer_parts-loop-part-preserved t c =
    let turns = turns_of c.args.entries in
    let comes = c.args.comes in
    let parts = c.args.parts.now in
    let i = c.loop-part.part-index in
    let part = c.part-item.result in
    let rest = parts_of (map answer_part_value (drop (i + 1) parts)) in
    let here = transition_turn turns (answer_part_value part).transition comes in
    let found_here = transition_found turns (answer_part_value part).transition comes in
    let turn = λ (xs : List AnswerPart). parts_turn turns (parts_of (map answer_part_value xs)) comes in
    let found = λ (xs : List AnswerPart). parts_found turns (parts_of (map answer_part_value xs)) comes in
    let turn_more : turn (drop i parts) ≡ sooner here (parts_turn turns rest comes) =
    at_drop_more turn parts i part c.loop-part-test.true
    ∙ ap (λ x. turn (x ∷ drop (i + 1) parts)) (sym c.part-item.is) in
    let found_more : found (drop i parts) ≡ found_here ++ parts_found turns rest comes =
    at_drop_more found parts i part c.loop-part-test.true
    ∙ ap (λ x. found (x ∷ drop (i + 1) parts)) (sym c.part-item.is) in
    let soonest = c.loop-part.soonest in
    let before = found_listed c.loop-part.found.items in
    record {
      turn =
          ap (λ turn. sooner turn (parts_turn turns rest comes))
          (c.sooner-soonest.ensures ∙ ap (sooner soonest) c.in_ok-turn.ensures.turn)
          ∙ sooner-three soonest here (parts_turn turns rest comes)
          ∙ ap (sooner soonest) (sym turn_more)
          ∙ c.loop-part.invariant.turn;
      found =
          ap (λ list. list ++ parts_found turns rest comes) c.in_ok-turn.ensures.found
          ∙ append_assoc before found_here (parts_found turns rest comes)
          ∙ ap (λ list. before ++ list) (sym found_more)
          ∙ c.loop-part.invariant.found;
    }

pub answer_parts-returns-clause-turn : goal.answer_parts-returns-clause-turn
answer_parts-returns-clause-turn t c =
    let turns = turns_of c.args.entries in
    let soonest = c.loop-part.soonest in
    sym (sooner-none soonest)
    ∙ sym (at_drop_all (λ (xs : List AnswerPart). sooner soonest
    (parts_turn turns (parts_of (map answer_part_value xs)) c.args.comes)) c.args.parts.now c.loop-part.part-index
    c.loop-part-test.false)
    ∙ c.loop-part.invariant.turn

pub answer_parts-returns-clause-found : goal.answer_parts-returns-clause-found
answer_parts-returns-clause-found t c =
    let turns = turns_of c.args.entries in
    let before = found_listed c.loop-part.found.items in
    sym (append-nil before)
    ∙ sym (at_drop_all (λ (xs : List AnswerPart). before
    ++ parts_found turns (parts_of (map answer_part_value xs)) c.args.comes) c.args.parts.now c.loop-part.part-index
    c.loop-part-test.false)
    ∙ c.loop-part.invariant.found

pub statements-returns-clause-turn : goal.statements-returns-clause-turn
statements-returns-clause-turn t c =
    let turns = turns_of c.args.entries in
    sym (at_drop_all (λ (xs : List ActionStatement).
    actions_turn turns (actions_of (map statement_value xs)) c.loop-one.here) c.args.statements.now c.loop-one.one-index
    c.loop-one-test.false)
    ∙ c.loop-one.invariant.turn

pub statements-returns-clause-found : goal.statements-returns-clause-found
statements-returns-clause-found t c =
    let turns = turns_of c.args.entries in
    let before = found_listed c.loop-one.found.items in
    sym (append-nil before)
    ∙ sym (at_drop_all (λ (xs : List ActionStatement). before
    ++ actions_found turns (actions_of (map statement_value xs)) c.loop-one.here) c.args.statements.now
    c.loop-one.one-index c.loop-one-test.false)
    ∙ c.loop-one.invariant.found

pub statement-returns-clause-turn : goal.statement-returns-clause-turn
statement-returns-clause-turn t c =
    let turns = turns_of c.args.entries in
    subst (λ here. IfOk c.action.result (λ turn. turn ≡ action_turn turns (action_value c.args.statement.now.action)
    here))
    (c.sooner-here.ensures ∙ ap (sooner c.args.comes) c.entry.ensures) c.action.ensures.turn

pub statement-returns-clause-found : goal.statement-returns-clause-found
statement-returns-clause-found t c =
    let turns = turns_of c.args.entries in
    let before = found_listed c.args.found.now.items in
    subst (λ here. OnOk c.action.result (found_listed c.action.new.found.items
    ≡ before ++ action_found turns (action_value c.args.statement.now.action) here))
    (c.sooner-here.ensures ∙ ap (sooner c.args.comes) c.entry.ensures) c.action.ensures.found
