use Rattle.std.proofs.Common.{[], ◌∷◌, List, flat_map, map, subst}
use Rattle.build_process.specs.Added.{Holds}
use Rattle.build_process.specs.Bodies.{bodies_among}
use Rattle.build_flow.specs.Beginnings.{part_beginnings}
use Rattle.build_statements.specs.Contexts.{context_of}
use Rattle.build_statements.specs.Transitions.{body_in}
use Rattle.sdl_tree.specs.Views.{body_part_value, transition_value}
use Rattle.sdl_tree.specs.declared.behaviour.BodyPart.{BodyPart}
use Rattle.build_process.proofs.transitions.add_process.Goals as goal

pub returns-clause-added : goal.returns-clause-added
returns-clause-added c =
    let context = context_of c.args.context.now in
    let start = body_in context (transition_value c.args.process.now.start.transition) in
    subst (λ (list : List BodyPart). Holds c.add_parts.new.added (start ∷ bodies_among context
    (flat_map part_beginnings (map body_part_value list)))) c.deref.ensures.value
    (c.in_ok-add_parts.ensures.added (start ∷ [])
    (c.in_ok-add_transition.ensures.added [] c.nothing_added-added.ensures))
