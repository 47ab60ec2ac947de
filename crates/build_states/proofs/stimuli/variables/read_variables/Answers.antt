use Rattle.std.proofs.Common.{◌∙◌, ◌+◌, ◌++◌, ◌∷◌, [], ap, drop, map, option_map, sym, take}
use Rattle.std.proofs.lemmas.List.{drop_more, map-append, take_more}
use Rattle.build_names.proofs.FaultLemmas.{both_noted}
use Rattle.build_names.specs.Faults.{least_of}
use Rattle.build_expressions.specs.Scope.{scope_of}
use Rattle.sdl_tree.specs.Views.{name_value}
use Rattle.build_states.specs.Faulty.{other_sorts, variable_faults, variables_faults}
use Rattle.build_states.specs.Mentions.{variable_in, variables_in}
use Rattle.build_states.proofs.PlaceLemmas.{first_sort-at, other_sorts-more}
use Rattle.build_states.proofs.stimuli.variables.read_variables.Goals as goal

pub loop-index-preserved : goal.loop-index-preserved
loop-index-preserved c =
    let i = c.loop-index.index in
    let parameters = c.args.parameters.now in
    let variables = c.args.variables.now in
    let variable = c.index-variables-index.result in
    let scope = scope_of c.args.scope.now in
    let view = option_map name_value in
    let here = view variable in
    let left = map view (drop (i + 1) variables) in
    let old = c.loop-index.faults in
    record {
      read =
          c.in_ok-push.ensures.items
          ∙ ap (λ items. items ++ c.read_variable.result ∷ []) c.loop-index.invariant.read
          ∙ ap (λ x. variables_in scope (map view (take i variables)) ++ x ∷ []) c.read_variable.ensures.read
          ∙ sym (ap (λ list. variables_in scope (map view list))
          (take_more variables i variable c.loop-index-test.true
          ∙ ap (λ x. take i variables ++ x ∷ []) (sym c.index-variables-index.is))
          ∙ ap (variables_in scope) (map-append view (take i variables) (variable ∷ []))
          ∙ map-append (variable_in scope) (map view (take i variables)) (here ∷ []));
      noted =
          ap (λ before. least_of before (variables_faults scope (drop (i + 1) parameters) left))
          c.read_variable.ensures.noted
          ∙ both_noted old (variable_faults scope c.sort_at-parameter.result here)
          (variables_faults scope (drop (i + 1) parameters) left)
          ∙ ap (λ list. least_of old
          (variable_faults scope c.sort_at-parameter.result here ++ variables_faults scope list left))
          (sym (other_sorts-more parameters i))
          ∙ ap (λ sort. least_of old
          (variable_faults scope sort here ++ variables_faults scope (other_sorts (drop i parameters)) left))
          (c.sort_at-parameter.ensures ∙ sym (first_sort-at parameters i))
          ∙ ap (λ list. least_of old (variables_faults scope (drop i parameters) (map view list)))
          (sym (drop_more variables i variable c.loop-index-test.true
          ∙ ap (λ x. x ∷ drop (i + 1) variables) (sym c.index-variables-index.is)))
          ∙ c.loop-index.invariant.noted;
    }
