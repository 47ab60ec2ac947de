use Rattle.std.proofs.Common.{◌≡◌, ◌∙◌, ◌+◌, ◌++◌, ◌∷◌, List, ap, append_assoc, drop, map, option_map, sym}
use Rattle.std.proofs.lemmas.List.{at_drop_more}
use Rattle.sdl_tree.specs.declared.behaviour.ActionStatement.{ActionStatement}
use Rattle.sdl_tree.specs.declared.behaviour.AnswerPart.{AnswerPart}
use Rattle.sdl_tree.specs.declared.behaviour.Transition.{out-Transition}
use Rattle.sdl_tree.specs.Tree.{actions_of, else_of, parts_of}
use Rattle.sdl_tree.specs.Views.{answer_part_value, ending_value, statement_value, transition_value}
use Rattle.build_flow.specs.Listed.{mentions_listed}
use Rattle.build_flow.specs.Mentions.{action_mentions, actions_mentions, ending_mentions, otherwise_mentions, parts_mentions, statement_mentions, transition_mentions}
use Rattle.build_flow.proofs.TreeLemmas.{decision_tree, then, transition_tree}
use Rattle.build_flow.proofs.mentions.+transition.Goals as goal

pub add_transition-returns : goal.add_transition-returns
add_transition-returns t c =
    let steps = out-Transition c.args.transition.now in
    let before = mentions_listed c.args.list.now.items in
    let endings = ending_mentions (option_map ending_value steps.terminator) in
    let actions = λ (xs : List ActionStatement). actions_mentions (actions_of (map statement_value xs)) in
    then before (mentions_listed c.add_statements.new.list.items) (mentions_listed c.add_ending.new.list.items)
    (actions steps.actions.items) endings
    (c.in_ok-add_statements.ensures ∙ ap (λ xs. before ++ actions xs) c.deref.ensures.value) c.in_ok-add_ending.ensures
    ∙ ap (λ u. before ++ transition_mentions u) (sym (transition_tree c.args.transition.now))

pub add_action-returns-in_ok-add_else : goal.add_action-returns-in_ok-add_else
add_action-returns-in_ok-add_else t c =
    let d = c.in-Decision in
    let before = mentions_listed c.args.list.now.items in
    let parts = λ (xs : List AnswerPart). parts_mentions (parts_of (map answer_part_value xs)) in
    let otherwise = otherwise_mentions (else_of (option_map transition_value d.otherwise)) in
    rw d.is (then before (mentions_listed c.add_parts.new.list.items) (mentions_listed c.add_else.new.list.items)
    (parts d.parts.items) otherwise
    (c.in_ok-add_parts.ensures ∙ ap (λ xs. before ++ parts xs) c.deref.ensures.value) c.in_ok-add_else.ensures
    ∙ ap (λ a. before ++ action_mentions a) (sym (decision_tree d.word d.question d.parts d.otherwise)))

pub add_statements-loop-statement-preserved : goal.add_statements-loop-statement-preserved
add_statements-loop-statement-preserved t c =
    let statements = c.args.statements.now in
    let i = c.loop-statement.statement-index in
    let one = c.statement-item.result in
    let here = statement_mentions (statement_value one) in
    let rest = actions_mentions (actions_of (map statement_value (drop (i + 1) statements))) in
    let mentions = λ (xs : List ActionStatement). actions_mentions (actions_of (map statement_value xs)) in
    let more : mentions (drop i statements) ≡ here ++ rest =
    at_drop_more mentions statements i one c.loop-statement-test.true
    ∙ ap (λ x. mentions (x ∷ drop (i + 1) statements)) (sym c.statement-item.is) in
    let before = mentions_listed c.loop-statement.list.items in
    ap (λ list. list ++ rest) c.in_ok-add_statement.ensures
    ∙ append_assoc before here rest
    ∙ ap (λ list. before ++ list) (sym more)
    ∙ c.loop-statement.invariant

pub add_parts-loop-part-preserved : goal.add_parts-loop-part-preserved
add_parts-loop-part-preserved t c =
    let parts = c.args.parts.now in
    let i = c.loop-part.part-index in
    let part = c.part-item.result in
    let here = transition_mentions (answer_part_value part).transition in
    let rest = parts_mentions (parts_of (map answer_part_value (drop (i + 1) parts))) in
    let mentions = λ (xs : List AnswerPart). parts_mentions (parts_of (map answer_part_value xs)) in
    let more : mentions (drop i parts) ≡ here ++ rest =
    at_drop_more mentions parts i part c.loop-part-test.true
    ∙ ap (λ x. mentions (x ∷ drop (i + 1) parts)) (sym c.part-item.is) in
    let before = mentions_listed c.loop-part.list.items in
    ap (λ list. list ++ rest) c.in_ok-add_part.ensures
    ∙ append_assoc before here rest
    ∙ ap (λ list. before ++ list) (sym more)
    ∙ c.loop-part.invariant
