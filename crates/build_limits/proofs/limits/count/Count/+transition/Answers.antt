use Rattle.std.proofs.Common.{◌∙◌, ◌++◌, List, ap, map, option_map, sym}
use Rattle.sdl_tree.specs.declared.behaviour.ActionStatement.{ActionStatement}
use Rattle.sdl_tree.specs.declared.behaviour.AnswerPart.{AnswerPart}
use Rattle.sdl_tree.specs.declared.behaviour.Transition.{out-Transition}
use Rattle.sdl_tree.specs.Tree.{actions_of, else_of, parts_of}
use Rattle.sdl_tree.specs.Views.{answer_part_value, ending_value, statement_value, transition_value}
use Rattle.build_limits.specs.Counted.{count_of, counted}
use Rattle.build_limits.specs.Limits.{actions_statements, ending_statements, otherwise_statements, parts_statements}
use Rattle.build_limits.proofs.CountLemmas.{counted-then}
use Rattle.build_limits.proofs.StatementLemmas.{decision_statements, steps_statements}
use Rattle.build_limits.proofs.limits.count.Count.+transition.Goals as goal

pub transition-returns : goal.transition-returns
transition-returns t c =
    let steps = out-Transition c.args.transition.now in
    let before = count_of c.args.self.now in
    let endings = ending_statements (option_map ending_value steps.terminator) in
    let actions = λ (xs : List ActionStatement). actions_statements (actions_of (map statement_value xs)) in
    counted-then before (count_of c.statements.new.self) (count_of c.ending.new.self)
    (actions steps.actions.items) endings
    (c.statements.ensures ∙ ap (λ xs. counted before (actions xs)) c.deref.ensures.value) c.ending.ensures
    ∙ ap (counted before) (sym (steps_statements c.args.transition.now))

pub action-returns-in-Decision : goal.action-returns-in-Decision
action-returns-in-Decision t c =
    let d = c.in-Decision in
    let asked = count_of c.mark-in-Decision.new.self in
    let parts = λ (xs : List AnswerPart). parts_statements (parts_of (map answer_part_value xs)) in
    let otherwise = otherwise_statements (else_of (option_map transition_value d.otherwise)) in
    rw d.is (counted-then asked (count_of c.answer_parts.new.self) (count_of c.otherwise.new.self)
    (parts d.parts.items) otherwise
    (c.answer_parts.ensures ∙ ap (λ xs. counted asked (parts xs)) c.deref.ensures.value) c.otherwise.ensures
    ∙ ap (λ n. counted n (parts d.parts.items ++ otherwise)) c.mark-in-Decision.ensures
    ∙ ap (counted (count_of c.args.self.now)) (sym (decision_statements d.word d.question d.parts d.otherwise)))
