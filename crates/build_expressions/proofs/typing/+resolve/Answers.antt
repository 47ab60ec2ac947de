use Rattle.std.proofs.Common.{◌≡◌, ◌∙◌, ◌+◌, ◌++◌, ◌∷◌, List, ap, drop, flat_map, map, option_map, sym}
use Rattle.std.proofs.lemmas.List.{at_drop_more, drop_all}
use Rattle.std.proofs.lemmas.Result.{IfOk-weaker, on_ok_weaker}
use Rattle.build_names.proofs.FaultLemmas.{both_noted}
use Rattle.build_names.specs.Faults.{least_of}
use Rattle.build_expressions.specs.Misused.{active_faults, binary_faults, expression_faults, links_faults, timer_faults, values_faults}
use Rattle.build_expressions.specs.Resolved.{left_of}
use Rattle.build_expressions.specs.Scope.{scope_of, signal_in}
use Rattle.build_expressions.specs.Typing.{active_typed, argument_in, arguments_in, binary_typed, chain_typed, typed_in}
use Rattle.build_expressions.proofs.ArgumentLemmas.{on_ok}
use Rattle.build_expressions.proofs.TreeLemmas.{arguments_in-list, chain_tree, values_faults-list}
use Rattle.sdl_tree.proofs.ViewLemmas.{active_value}
use Rattle.sdl_tree.specs.Tree.{exprs_of, links_of}
use Rattle.sdl_tree.specs.Views.{expr_value, link_value, name_value}
use Rattle.sdl_tree.specs.declared.expressions.Chain.{out-Chain}
use Rattle.sdl_tree.specs.declared.expressions.Link.{Link}
use Rattle.build_expressions.proofs.typing.+resolve.Goals as goal

pub resolve_chain-returns-clause-typed : goal.resolve_chain-returns-clause-typed
resolve_chain-returns-clause-typed t c =
    let context = c.args.context in
    let scope = scope_of c.args.scope.now in
    let links = c.deref-link-items.result.now in
    let left = option_map left_of c.loop-link.left in
    IfOk-weaker c.finish.result _ _ (λ found is.
    is
    ∙ ap (λ list. chain_typed context scope left (links_of (map link_value list)))
    (sym (drop_all c.loop-link.link-index links c.loop-link-test.false))
    ∙ c.loop-link.invariant.typed
    ∙ ap (λ first. chain_typed context scope first (links_of (map link_value links)))
    (c.begin-left.ensures ∙ c.in_ok-resolve_in.ensures.typed)
    ∙ ap (λ list. chain_typed context scope (typed_in context scope (expr_value (out-Chain c.args.chain.now).first))
    (links_of (map link_value list))) c.deref-link-items.ensures.value
    ∙ ap (typed_in context scope) (sym (chain_tree c.args.chain.now))) c.finish.ensures

pub resolve_chain-returns-clause-noted : goal.resolve_chain-returns-clause-noted
resolve_chain-returns-clause-noted t c =
    let context = c.args.context in
    let scope = scope_of c.args.scope.now in
    let links = c.deref-link-items.result.now in
    let left = option_map left_of c.loop-link.left in
    let first = expr_value (out-Chain c.args.chain.now).first in
    let old = c.args.faults.now in
    let begun = c.resolve_in.new.faults in
    on_ok c.finish.result
    (ap (λ list. least_of c.loop-link.faults (links_faults context scope left (links_of (map link_value list))))
    (sym (drop_all c.loop-link.link-index links c.loop-link-test.false))
    ∙ c.loop-link.invariant.noted
    ∙ ap (λ typed. least_of begun (links_faults context scope typed (links_of (map link_value links))))
    (c.begin-left.ensures ∙ c.in_ok-resolve_in.ensures.typed)
    ∙ ap (λ list. least_of begun (links_faults context scope (typed_in context scope first)
    (links_of (map link_value list)))) c.deref-link-items.ensures.value
    ∙ ap (λ before. least_of before (links_faults context scope (typed_in context scope first)
    (links_of (map link_value (out-Chain c.args.chain.now).rest.items)))) c.in_ok-resolve_in.ensures.noted
    ∙ both_noted old (expression_faults context scope first) (links_faults context scope
    (typed_in context scope first) (links_of (map link_value (out-Chain c.args.chain.now).rest.items)))
    ∙ ap (λ e. least_of old (expression_faults context scope e)) (sym (chain_tree c.args.chain.now)))

pub resolve_in-returns-in_ok-arguments-in-Active-clause-typed :
    goal.resolve_in-returns-in_ok-arguments-in-Active-clause-typed
resolve_in-returns-in_ok-arguments-in-Active-clause-typed t c =
    let a = c.in-Active in
    let context = c.args.context in
    let scope = scope_of c.args.scope.now in
    rw a.is (IfOk-weaker c.resolve_timer.result _ _ (λ found is.
    is
    ∙ ap (active_typed context (signal_in scope (name_value a.timer).text))
    (c.in_ok-arguments-in-Active.ensures.arguments
    ∙ ap (λ values. map (argument_in context scope) (map expr_value values)) c.deref.ensures.value
    ∙ sym (arguments_in-list context scope (map expr_value a.values.items)))
    ∙ ap (typed_in context scope) (sym (active_value a.word a.timer a.values))) c.resolve_timer.ensures.typed)

pub resolve_in-returns-in_ok-arguments-in-Active-clause-noted :
    goal.resolve_in-returns-in_ok-arguments-in-Active-clause-noted
resolve_in-returns-in_ok-arguments-in-Active-clause-noted t c =
    let a = c.in-Active in
    let context = c.args.context in
    let scope = scope_of c.args.scope.now in
    let old = c.args.faults.now in
    let name = name_value a.timer in
    let values = exprs_of (map expr_value a.values.items) in
    let word = active_faults context a.word in
    let timers = timer_faults name (signal_in scope name.text) (arguments_in context scope values) in
    rw a.is (on_ok_weaker c.resolve_timer.result (λ is.
    is
    ∙ ap (λ arguments. least_of c.resolve_each.new.faults
    (timer_faults name (signal_in scope name.text) arguments))
    (c.in_ok-arguments-in-Active.ensures.arguments
    ∙ ap (λ list. map (argument_in context scope) (map expr_value list)) c.deref.ensures.value
    ∙ sym (arguments_in-list context scope (map expr_value a.values.items)))
    ∙ ap (λ before. least_of before timers)
    (c.in_ok-arguments-in-Active.ensures.noted
    ∙ ap (λ list. least_of c.note_active.new.faults (flat_map (expression_faults context scope) (map expr_value list)))
    c.deref.ensures.value
    ∙ ap (least_of c.note_active.new.faults) (sym (values_faults-list context scope (map expr_value a.values.items)))
    ∙ ap (λ before. least_of before (values_faults context scope values)) c.note_active.ensures)
    ∙ both_noted (least_of old word) (values_faults context scope values) timers
    ∙ both_noted old word (values_faults context scope values ++ timers)
    ∙ ap (λ e. least_of old (expression_faults context scope e)) (sym (active_value a.word a.timer a.values)))
    c.resolve_timer.ensures.noted)

pub resolve_chain-loop-link-preserved : goal.resolve_chain-loop-link-preserved
resolve_chain-loop-link-preserved t c =
    let context = c.args.context in
    let scope = scope_of c.args.scope.now in
    let links = c.deref-link-items.result.now in
    let i = c.loop-link.link-index in
    let link = c.link-item.result in
    let left = option_map left_of c.loop-link.left in
    let old = c.loop-link.faults in
    let operand = expr_value link.operand in
    let joined = binary_typed link.operator left (typed_in context scope operand) in
    let rest = links_of (map link_value (drop (i + 1) links)) in
    let here = expression_faults context scope operand
    ++ binary_faults link.operator link.word left (typed_in context scope operand) in
    let typed = λ (list : List Link). chain_typed context scope left (links_of (map link_value list)) in
    let faults = λ (list : List Link). links_faults context scope left (links_of (map link_value list)) in
    let typed_more : typed (drop i links) ≡ chain_typed context scope joined rest =
    at_drop_more typed links i link c.loop-link-test.true
    ∙ ap (λ x. typed (x ∷ drop (i + 1) links)) (sym c.link-item.is) in
    let faults_more : faults (drop i links) ≡ here ++ links_faults context scope joined rest =
    at_drop_more faults links i link c.loop-link-test.true
    ∙ ap (λ x. faults (x ∷ drop (i + 1) links)) (sym c.link-item.is) in
    record {
      typed =
          ap (λ first. chain_typed context scope first rest) c.in_ok-left.ensures.typed
          ∙ sym typed_more
          ∙ c.loop-link.invariant.typed;
      noted =
          ap (λ first. least_of c.resolve_link.new.faults (links_faults context scope first rest))
          c.in_ok-left.ensures.typed
          ∙ ap (λ before. least_of before (links_faults context scope joined rest)) c.in_ok-left.ensures.noted
          ∙ both_noted old here (links_faults context scope joined rest)
          ∙ ap (least_of old) (sym faults_more)
          ∙ c.loop-link.invariant.noted;
    }
