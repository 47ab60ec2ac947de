use Rattle.std.proofs.Common.{◌∙◌, ◌++◌, List, ap, map, option_map, refl, sym}
use Rattle.std.proofs.lemmas.List.{append_assoc}
use Rattle.std.proofs.lemmas.Result.{on_ok_weaker}
use Rattle.build_names.proofs.LabelLemmas.{decision_labels, left_less, none_left, steps_labels}
use Rattle.build_names.specs.Labels.{action_labels, actions_labels, ending_labels, label_words, names_listed, otherwise_labels, parts_labels, transition_labels}
use Rattle.sdl_tree.specs.Tree.{actions_of, else_of, parts_of}
use Rattle.sdl_tree.specs.Views.{answer_part_value, ending_value, statement_value, transition_value}
use Rattle.sdl_tree.specs.declared.behaviour.ActionStatement.{ActionStatement}
use Rattle.sdl_tree.specs.declared.behaviour.AnswerPart.{AnswerPart}
use Rattle.sdl_tree.specs.declared.behaviour.Transition.{out-Transition}
use Rattle.build_names.proofs.labels.+transition.Goals as goal

pub add_transition-returns : goal.add_transition-returns
add_transition-returns t c =
    let steps = out-Transition c.args.transition.now in
    let old = names_listed c.args.labels.now.items in
    let endings = ending_labels (option_map ending_value steps.terminator) in
    let actions = λ (xs : List ActionStatement). actions_labels (actions_of (map statement_value xs)) in
    on_ok_weaker c.add_ending.result (λ is.
    is
    ∙ ap (λ before. before ++ endings)
    (c.in_ok-add_statements.ensures ∙ ap (λ xs. old ++ actions xs) c.deref.ensures.value)
    ∙ append_assoc old (actions steps.actions.items) endings
    ∙ ap (λ labels. old ++ labels) (sym (steps_labels c.args.transition.now))) c.add_ending.ensures

pub add_action-returns-in_ok-add_parts-in-Decision : goal.add_action-returns-in_ok-add_parts-in-Decision
add_action-returns-in_ok-add_parts-in-Decision t c =
    let d = c.in-Decision in
    let old = names_listed c.args.labels.now.items in
    let parts = λ (xs : List AnswerPart). parts_labels (parts_of (map answer_part_value xs)) in
    let otherwise = otherwise_labels (else_of (option_map transition_value d.otherwise)) in
    rw d.is (on_ok_weaker c.add_otherwise.result (λ is.
    is
    ∙ ap (λ before. before ++ otherwise)
    (c.in_ok-add_parts-in-Decision.ensures ∙ ap (λ xs. old ++ parts xs) c.deref.ensures.value)
    ∙ append_assoc old (parts d.parts.items) otherwise
    ∙ ap (λ labels. old ++ labels) (sym (decision_labels d.word d.question d.parts d.otherwise)))
    c.add_otherwise.ensures)

pub add_statements-loop-statement-preserved : goal.add_statements-loop-statement-preserved
add_statements-loop-statement-preserved t c =
    let s = statement_value c.statement-item.result in
    left_less (λ xs. actions_labels (actions_of (map statement_value xs)))
    (λ x. label_words (statement_value x).label ++ action_labels (statement_value x).action) _ _ _
    c.args.statements.now c.loop-statement.statement-index c.statement-item.result
    (λ y ys. sym (append_assoc (label_words (statement_value y).label) (action_labels (statement_value y).action)
    (actions_labels (actions_of (map statement_value ys)))))
    c.loop-statement-test.true c.statement-item.is c.loop-statement.invariant
    (c.in_ok-add_action.ensures ∙ ap (λ l. l ++ action_labels s.action) c.in_ok-add_label.ensures
    ∙ append_assoc (names_listed c.loop-statement.labels.items) (label_words s.label) (action_labels s.action))

pub add_statements-returns : goal.add_statements-returns
add_statements-returns t c =
    none_left (λ xs. actions_labels (actions_of (map statement_value xs))) _ _ c.args.statements.now
    c.loop-statement.statement-index refl c.loop-statement-test.false c.loop-statement.invariant

pub add_parts-loop-part-preserved : goal.add_parts-loop-part-preserved
add_parts-loop-part-preserved t c =
    left_less (λ xs. parts_labels (parts_of (map answer_part_value xs)))
    (λ x. transition_labels (answer_part_value x).transition) _ _ _ c.args.parts.now c.loop-part.part-index
    c.part-item.result (λ y ys. refl) c.loop-part-test.true c.part-item.is c.loop-part.invariant
    c.in_ok-add_part.ensures

pub add_parts-returns : goal.add_parts-returns
add_parts-returns t c =
    none_left (λ xs. parts_labels (parts_of (map answer_part_value xs))) _ _ c.args.parts.now c.loop-part.part-index
    refl
    c.loop-part-test.false c.loop-part.invariant
