use Rattle.std.proofs.Common.{◌≡◌, ◌∙◌, ◌+◌, ◌++◌, [], ◌∷◌, ap, flat_map, map, subst, sym, take}
use Rattle.std.proofs.lemmas.Grind.{take_at_read}
use Rattle.std.proofs.lemmas.List.{map-append, take_all}
use Rattle.build_process.proofs.ListLemmas.{bodies-more, faults-more}
use Rattle.build_process.specs.Added.{Holds}
use Rattle.build_process.specs.Bodies.{bodies_among, faults_among}
use Rattle.build_flow.specs.Beginnings.{stimulus_beginnings}
use Rattle.build_statements.specs.Contexts.{context_of}
use Rattle.build_names.proofs.FaultLemmas.{both_noted}
use Rattle.build_names.specs.Faults.{least_of}
use Rattle.sdl_tree.specs.Views.{stimulus_value}
use Rattle.build_process.proofs.added.add_stimuli.Goals as goal

pub loop-stimulus-preserved : goal.loop-stimulus-preserved
loop-stimulus-preserved c =
    let context = context_of c.args.context.now in
    let stimuli = c.args.stimuli.now in
    let i = c.loop-stimulus.stimulus-index in
    let stimulus = c.stimulus-item.result in
    let before = map stimulus_value (take i stimuli) in
    let here = stimulus_value stimulus in
    let old = c.args.faults.now in
    let listed : map stimulus_value (take (i + 1) stimuli) ≡ before ++ here ∷ [] =
    ap (map stimulus_value) ((take_at_read stimuli i stimulus c.loop-stimulus-test.true).1
    ∙ ap (λ x. take i stimuli ++ x ∷ []) (sym c.stimulus-item.is))
    ∙ map-append stimulus_value (take i stimuli) (stimulus ∷ []) in
    record {
      added = λ found holds.
          subst (Holds c.add_stimulus.new.added)
          (bodies-more context stimulus_beginnings before here found
          ∙ ap (λ list. found ++ bodies_among context (flat_map stimulus_beginnings list)) (sym listed))
          (c.in_ok-add_stimulus.ensures.added (found ++ bodies_among context (flat_map stimulus_beginnings before))
          (c.loop-stimulus.invariant.added found holds));
      noted =
          c.in_ok-add_stimulus.ensures.noted
          ∙ ap (λ o. least_of o (faults_among context (stimulus_beginnings here))) c.loop-stimulus.invariant.noted
          ∙ both_noted old (faults_among context (flat_map stimulus_beginnings before))
          (faults_among context (stimulus_beginnings here))
          ∙ ap (least_of old) (faults-more context stimulus_beginnings before here
          ∙ ap (λ list. faults_among context (flat_map stimulus_beginnings list)) (sym listed));
    }

pub returns-clause-added : goal.returns-clause-added
returns-clause-added c = λ found holds.
    subst (λ list. Holds c.loop-stimulus.added (found ++ bodies_among (context_of c.args.context.now)
    (flat_map stimulus_beginnings (map stimulus_value list))))
    (take_all c.loop-stimulus.stimulus-index c.args.stimuli.now c.loop-stimulus-test.false)
    (c.loop-stimulus.invariant.added found holds)
