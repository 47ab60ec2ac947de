use Rattle.std.proofs.Common.{◌++◌, List, flat_map, map, subst}
use Rattle.std.proofs.lemmas.Result.{on_ok_weaker}
use Rattle.build_process.specs.Added.{Holds}
use Rattle.build_process.specs.Bodies.{bodies_among}
use Rattle.build_flow.specs.Beginnings.{stimulus_beginnings}
use Rattle.build_statements.specs.Contexts.{context_of}
use Rattle.sdl_tree.specs.Views.{stimulus_value}
use Rattle.sdl_tree.specs.declared.behaviour.Stimulus.{Stimulus}
use Rattle.build_process.proofs.added.add_part.Goals as goal

pub returns-in-State-clause-added : goal.returns-in-State-clause-added
returns-in-State-clause-added c =
    let context = context_of c.args.context.now in
    rw c.in-State.is (on_ok_weaker c.add_stimuli.result (λ more found holds.
    subst (λ (list : List Stimulus). Holds c.add_stimuli.new.added (found ++ bodies_among context
    (flat_map stimulus_beginnings (map stimulus_value list)))) c.deref.ensures.value (more found holds))
    c.add_stimuli.ensures.added)
