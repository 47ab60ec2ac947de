use Rattle.std.proofs.Common.{◌≡◌, ◌∙◌, ◌+◌, ◌-◌, ◌<◌, ◌++◌, ◌∷◌, [], List, Option, None, ap, append_assoc, arith, drop, flat_map, length, map, option_map, sym, subst, take}
use Rattle.std.proofs.lemmas.Grind.{take_at_read}
use Rattle.std.proofs.lemmas.List.{drop_more, map-append}
use Rattle.std.proofs.lemmas.Result.{IfOk-weaker, on_ok_weaker}
use Rattle.build_statements.specs.Built.{BuiltIf, table_of}
use Rattle.build_statements.specs.Contexts.{context_of}
use Rattle.build_statements.specs.Decided.{BuiltPiecesIf, HeadIf, IsDecisionOrNone}
use Rattle.build_statements.specs.Faulty.{asked_faults}
use Rattle.build_statements.specs.Later.{with_later}
use Rattle.build_statements.specs.Statements.{asked_in, kind_in}
use Rattle.build_statements.specs.Transitions.{Head, Piece, action_faults, asks_in, body_in, ending_faults, ending_in, head_in, other_faults, other_in, part_faults, piece_in, steps_faults, steps_in, transition_faults}
use Rattle.build_statements.proofs.LaterLemmas.{later-noted}
use Rattle.build_statements.proofs.ListLemmas.{flat_map-last, if_on}
use Rattle.build_statements.proofs.TransitionLemmas.{decision-built, pieces-more, placed-built, step-built}
use Rattle.build_statements.proofs.TreeLemmas.{part_faults-list, pieces-list, transition-tree}
use Rattle.build_names.proofs.FaultLemmas.{both_noted}
use Rattle.build_names.specs.Faults.{least_of}
use Rattle.build_expressions.proofs.ArgumentLemmas.{all_some-last}
use Rattle.build_expressions.specs.Partial.{all_some, and_last}
use Rattle.build_expressions.specs.Typing.{term_in}
use Rattle.sdl_system.specs.Body.{Body}
use Rattle.sdl_system.specs.Term.{Term}
use Rattle.sdl_system.specs.declared.statement.Branch.{Branch}
use Rattle.sdl_tree.proofs.ViewLemmas.{decision_value}
use Rattle.sdl_tree.specs.Tree.{actions_of, else_of}
use Rattle.sdl_tree.specs.Views.{action_value, answer_part_value, ending_value, expr_value, name_value, statement_value, transition_value}
use Rattle.sdl_tree.specs.declared.behaviour.ActionStatement.{ActionStatement}
use Rattle.sdl_tree.specs.declared.behaviour.Transition.{out-Transition}
use Rattle.build_statements.proofs.nodes.transition.+add.Goals as goal

pub add-returns-clause-built : goal.add-returns-clause-built
add-returns-clause-built t c =
    let context = context_of c.args.context.now in
    let steps = out-Transition c.args.transition.now in
    let end = ending_in context (option_map ending_value steps.terminator) in
    IfOk-weaker c.add_steps.result _ _ (λ place built.
    subst (λ (b : Option Body).
    BuiltIf (table_of c.args.table.now) (table_of c.add_steps.new.table) place b c.args.next)
    (ap (λ list. steps_in context (actions_of (map statement_value list)) end) c.deref.ensures.value
    ∙ ap (body_in context) (sym (transition-tree c.args.transition.now))) built) c.add_steps.ensures.built

pub add-returns-clause-noted : goal.add-returns-clause-noted
add-returns-clause-noted t c =
    let context = context_of c.args.context.now in
    let steps = out-Transition c.args.transition.now in
    let old = c.args.faults.now in
    let end = ending_faults context (option_map ending_value steps.terminator) in
    on_ok_weaker c.add_steps.result (λ is.
    is
    ∙ ap (λ list. least_of old (steps_faults context (actions_of (map statement_value list)) ++ end))
    c.deref.ensures.value
    ∙ ap (λ x. least_of old (transition_faults context x)) (sym (transition-tree c.args.transition.now)))
    c.add_steps.ensures.noted

pub add_step-returns-clause-built : goal.add_step-returns-clause-built
add_step-returns-clause-built t c =
    let context = context_of c.args.context.now in
    let step = c.args.step.now in
    if_on c.place.result c.place.ensures.place c.place.ensures.table (λ place is table_is first behind to built.
    placed-built first _ _ place _ _ to table_is is
    (step-built context first (table_of c.args.table.now) (table_of c.add_head.new.table)
    (option_map name_value step.label) c.in_ok-statement.statement (head_in context (action_value step.action)) behind
    c.args.next to c.in_ok-statement.ensures.head built))

pub add_steps-loop-left-preserved : goal.add_steps-loop-left-preserved
add_steps-loop-left-preserved t c =
    let context = context_of c.args.context.now in
    let steps = c.args.steps.now in
    let left = c.loop-left.left in
    let i = left - 1 in
    let step = c.index-steps-left.result in
    let end = ending_in context (option_map ending_value c.args.ending.now) in
    let end_faults = ending_faults context (option_map ending_value c.args.ending.now) in
    let below : i < length steps = omega (arith, c.loop-left.invariant.bound, c.loop-left-test.true) in
    let next : i + 1 ≡ left = omega (arith, c.loop-left-test.true) in
    let more : drop i steps ≡ step ∷ drop left steps =
    drop_more steps i step below ∙ ap (λ x. x ∷ drop (i + 1) steps) (sym c.index-steps-left.is)
    ∙ ap (λ n. step ∷ drop n steps) next in
    let here = action_faults context (action_value step.action) in
    let rest = steps_faults context (actions_of (map statement_value (drop left steps))) in
    let told_here = c.add_step.new.faults in
    record {
      bound = omega (arith, c.loop-left.invariant.bound);
      built =
          subst (λ (list : List ActionStatement). BuiltIf (table_of c.args.table.now) (table_of c.add_step.new.table)
          c.in_ok-place-2.place (steps_in context (actions_of (map statement_value list)) end) c.args.next) (sym more)
          (c.in_ok-place-2.ensures.built (table_of c.args.table.now)
          (steps_in context (actions_of (map statement_value (drop left steps))) end) c.args.next
          c.loop-left.invariant.built);
      noted =
          c.note_later.ensures
          ∙ ap (with_later told_here) c.loop-left.invariant.noted
          ∙ later-noted told_here (rest ++ end_faults)
          ∙ ap (λ o. least_of o (rest ++ end_faults)) c.in_ok-place-2.ensures.noted
          ∙ ap (λ o. least_of (least_of o here) (rest ++ end_faults)) c.new-here.ensures
          ∙ both_noted None here (rest ++ end_faults)
          ∙ ap (least_of None) (sym (append_assoc here rest end_faults))
          ∙ ap (λ list. least_of None (steps_faults context (actions_of (map statement_value list)) ++ end_faults))
          (sym more);
    }

pub add_steps-returns-clause-noted : goal.add_steps-returns-clause-noted
add_steps-returns-clause-noted t c =
    let context = context_of c.args.context.now in
    let steps = c.args.steps.now in
    let old = c.args.faults.now in
    let end_faults = ending_faults context (option_map ending_value c.args.ending.now) in
    let none : c.loop-left.left ≡ 0 = omega (arith, c.loop-left-test.false) in
    c.note_later-2.ensures
    ∙ ap (with_later old) c.loop-left.invariant.noted
    ∙ later-noted old
    (steps_faults context (actions_of (map statement_value (drop c.loop-left.left steps))) ++ end_faults)
    ∙ ap (λ n. least_of old (steps_faults context (actions_of (map statement_value (drop n steps))) ++ end_faults)) none

pub add_parts-loop-part-preserved : goal.add_parts-loop-part-preserved
add_parts-loop-part-preserved t c =
    let context = context_of c.args.context.now in
    let parts = c.args.parts.now in
    let i = c.loop-part.part-index in
    let part = c.part-item.result in
    let here = answer_part_value part in
    let before = map answer_part_value (take i parts) in
    let pieces = piece_in context c.args.question in
    let faults = part_faults context c.args.question in
    let old = c.args.faults.now in
    let listed : map answer_part_value (take (i + 1) parts) ≡ before ++ here ∷ [] =
    ap (map answer_part_value) ((take_at_read parts i part c.loop-part-test.true).1
    ∙ ap (λ x. take i parts ++ x ∷ []) (sym c.part-item.is))
    ∙ map-append answer_part_value (take i parts) (part ∷ []) in
    record {
      built =
          subst (λ (x : Option (List Piece)). BuiltPiecesIf (table_of c.args.table.now) (table_of c.add_part.new.table)
          (option_map (λ list. list.items) c.in_ok-found.found) x c.args.next)
          (sym (ap (λ list. all_some (map pieces list)) listed
          ∙ ap all_some (map-append pieces before (here ∷ []))
          ∙ all_some-last (map pieces before) (pieces here)))
          (subst (λ (x : Option (List Branch)). BuiltPiecesIf (table_of c.args.table.now)
          (table_of c.add_part.new.table) x (and_last (all_some (map pieces before)) (pieces here)) c.args.next)
          (sym c.in_ok-found.ensures)
          (pieces-more (table_of c.args.table.now) (table_of c.loop-part.table) (table_of c.add_part.new.table)
          (option_map (λ list. list.items) c.loop-part.found) (all_some (map pieces before)) c.in_ok-branch.branch
          (pieces here) c.args.next c.loop-part.invariant.built c.in_ok-branch.ensures.built));
      noted =
          c.in_ok-branch.ensures.noted
          ∙ ap (λ o. least_of o (faults here)) c.loop-part.invariant.noted
          ∙ both_noted old (flat_map faults before) (faults here)
          ∙ ap (least_of old) (sym (ap (flat_map faults) listed ∙ flat_map-last faults before here));
    }

pub add_head-returns-in_ok-other-in-Decision-clause-head : goal.add_head-returns-in_ok-other-in-Decision-clause-head
add_head-returns-in_ok-other-in-Decision-clause-head t c =
    let d = c.in-Decision in
    let context = context_of c.args.context.now in
    let typed = asked_in context (expr_value d.question) in
    let kind_is : c.kind_of-kind.result ≡ kind_in typed =
    c.kind_of-kind.ensures ∙ ap kind_in c.in_ok-asked-in-Decision.ensures.typed in
    let list = c.deref-in-Decision.result.now in
    let parts = map answer_part_value d.parts.items in
    let pieces = all_some (map (piece_in context (kind_in typed)) parts) in
    let other = other_in context (else_of (option_map transition_value d.otherwise)) in
    let old = table_of c.args.table.now in
    let mid = table_of c.add_parts.new.table in
    let new = table_of c.add_other.new.table in
    let branches = option_map (λ list. list.items) c.in_ok-branches-in-Decision.branches in
    let way = c.in_ok-other-in-Decision.other in
    rw d.is (subst (λ (h : Option Head). HeadIf old new c.decision.result h c.args.next)
    (ap (λ ps. asks_in typed ps other) (sym (pieces-list context (kind_in typed) parts))
    ∙ ap (head_in context) (sym (decision_value d.word d.question d.parts d.otherwise)))
    (decision-built old mid new (term_in typed) branches pieces way other c.decision.result c.args.next
    (subst (λ (x : Option (List Piece)). BuiltPiecesIf old mid branches x c.args.next)
    (ap (λ k. all_some (map (piece_in context k) (map answer_part_value list))) kind_is
    ∙ ap (λ l. all_some (map (piece_in context (kind_in typed)) (map answer_part_value l)))
    c.deref-in-Decision.ensures.value) c.in_ok-branches-in-Decision.ensures.built)
    c.in_ok-other-in-Decision.ensures.built
    (subst (λ (x : Option Term). IsDecisionOrNone x branches way c.decision.result)
    (c.question_of.ensures ∙ ap term_in c.in_ok-asked-in-Decision.ensures.typed) c.decision.ensures)))

pub add_head-returns-in_ok-other-in-Decision-clause-noted : goal.add_head-returns-in_ok-other-in-Decision-clause-noted
add_head-returns-in_ok-other-in-Decision-clause-noted t c =
    let d = c.in-Decision in
    let context = context_of c.args.context.now in
    let typed = asked_in context (expr_value d.question) in
    let kind_is : c.kind_of-kind.result ≡ kind_in typed =
    c.kind_of-kind.ensures ∙ ap kind_in c.in_ok-asked-in-Decision.ensures.typed in
    let list = c.deref-in-Decision.result.now in
    let parts = map answer_part_value d.parts.items in
    let old = c.args.faults.now in
    let asked = asked_faults context (expr_value d.question) in
    let inner = flat_map (part_faults context (kind_in typed)) parts in
    let last = other_faults context (else_of (option_map transition_value d.otherwise)) in
    let begun = c.resolve.new.faults in
    rw d.is (c.in_ok-other-in-Decision.ensures.noted
    ∙ ap (λ o. least_of o last) (c.in_ok-branches-in-Decision.ensures.noted
    ∙ ap (λ k. least_of begun (flat_map (part_faults context k) (map answer_part_value list))) kind_is
    ∙ ap (λ l. least_of begun (flat_map (part_faults context (kind_in typed)) (map answer_part_value l)))
    c.deref-in-Decision.ensures.value
    ∙ ap (λ o. least_of o inner) c.in_ok-asked-in-Decision.ensures.noted)
    ∙ both_noted (least_of old asked) inner last
    ∙ both_noted old asked (inner ++ last)
    ∙ ap (λ faults. least_of old (asked ++ (faults ++ last))) (sym (part_faults-list context (kind_in typed) parts))
    ∙ ap (λ x. least_of old (action_faults context x)) (sym (decision_value d.word d.question d.parts d.otherwise)))
