use Rattle.std.proofs.Common.{◌≡◌, ◌∙◌, ◌+◌, ◌++◌, [], ◌∷◌, ap, flat_map, map, subst, sym, take}
use Rattle.std.proofs.lemmas.Grind.{take_at_read}
use Rattle.std.proofs.lemmas.List.{map-append, take_all}
use Rattle.build_process.proofs.ListLemmas.{bodies-more, faults-more}
use Rattle.build_process.specs.Added.{Holds}
use Rattle.build_process.specs.Bodies.{bodies_among, faults_among}
use Rattle.build_flow.specs.Beginnings.{part_beginnings}
use Rattle.build_statements.specs.Contexts.{context_of}
use Rattle.build_names.proofs.FaultLemmas.{both_noted}
use Rattle.build_names.specs.Faults.{least_of}
use Rattle.sdl_tree.specs.Views.{body_part_value}
use Rattle.build_process.proofs.added.add_parts.Goals as goal

pub loop-part-preserved : goal.loop-part-preserved
loop-part-preserved c =
    let context = context_of c.args.context.now in
    let parts = c.args.parts.now in
    let i = c.loop-part.part-index in
    let part = c.part-item.result in
    let before = map body_part_value (take i parts) in
    let here = body_part_value part in
    let old = c.args.faults.now in
    let listed : map body_part_value (take (i + 1) parts) ≡ before ++ here ∷ [] =
    ap (map body_part_value) ((take_at_read parts i part c.loop-part-test.true).1
    ∙ ap (λ x. take i parts ++ x ∷ []) (sym c.part-item.is))
    ∙ map-append body_part_value (take i parts) (part ∷ []) in
    record {
      added = λ found holds.
          subst (Holds c.add_part.new.added)
          (bodies-more context part_beginnings before here found
          ∙ ap (λ list. found ++ bodies_among context (flat_map part_beginnings list)) (sym listed))
          (c.in_ok-add_part.ensures.added (found ++ bodies_among context (flat_map part_beginnings before))
          (c.loop-part.invariant.added found holds));
      noted =
          c.in_ok-add_part.ensures.noted
          ∙ ap (λ o. least_of o (faults_among context (part_beginnings here))) c.loop-part.invariant.noted
          ∙ both_noted old (faults_among context (flat_map part_beginnings before))
          (faults_among context (part_beginnings here))
          ∙ ap (least_of old) (faults-more context part_beginnings before here
          ∙ ap (λ list. faults_among context (flat_map part_beginnings list)) (sym listed));
    }

pub returns-clause-added : goal.returns-clause-added
returns-clause-added c = λ found holds.
    subst (λ list. Holds c.loop-part.added (found ++ bodies_among (context_of c.args.context.now)
    (flat_map part_beginnings (map body_part_value list))))
    (take_all c.loop-part.part-index c.args.parts.now c.loop-part-test.false)
    (c.loop-part.invariant.added found holds)
