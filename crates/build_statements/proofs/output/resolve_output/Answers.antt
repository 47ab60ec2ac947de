use Rattle.std.proofs.Common.{◌≡◌, ◌∙◌, ◌++◌, Bool, None, Option, Some, ap, flat_map, is_some, map, option_map, refl}
use Rattle.build_expressions.specs.Partial.{all_some, both}
use Rattle.build_names.proofs.FaultLemmas.{both_noted}
use Rattle.build_names.specs.Faults.{least_of}
use Rattle.build_statements.specs.Contexts.{context_of}
use Rattle.build_statements.specs.Faulty.{destination_faults, has_destination, sending_faults}
use Rattle.build_statements.specs.Statements.{sending_in}
use Rattle.sdl_system.specs.Body.{output}
use Rattle.sdl_system.specs.Table.{whither_of}
use Rattle.sdl_tree.specs.Views.{applied_value, destination_value}
use Rattle.sdl_tree.specs.declared.behaviour.Destination.{Destination}
use Rattle.build_statements.proofs.output.resolve_output.Goals as goal

pub returns-clause-output : goal.returns-clause-output
returns-clause-output c =
    let outputs = map applied_value c.args.outputs.now in
    c.output.ensures
    ∙ ap (λ list. both output list (option_map (option_map whither_of) c.in_ok-to.to)) c.in_ok-signals.ensures.signals
    ∙ ap (both output (all_some (map (sending_in (context_of c.args.context.now)) outputs))) c.in_ok-to.ensures.to

goes_somewhere : (destination : Option Destination) → is_some destination ≡ has_destination
    (option_map destination_value destination)
goes_somewhere None = refl
goes_somewhere (Some destination) = refl

pub returns-clause-noted : goal.returns-clause-noted
returns-clause-noted c =
    let context = context_of c.args.context.now in
    let old = c.args.faults.now in
    let outputs = map applied_value c.args.outputs.now in
    let destination = option_map destination_value c.args.destination.now in
    let sent = λ (there : Bool). flat_map (sending_faults context there) outputs in
    c.in_ok-to.ensures.noted
    ∙ ap (λ faults. least_of faults (destination_faults context destination)) c.in_ok-signals.ensures.noted
    ∙ both_noted old (sent c.is_some.result) (destination_faults context destination)
    ∙ ap (λ there. least_of old (sent there ++ destination_faults context destination))
    (c.is_some.ensures ∙ goes_somewhere c.args.destination.now)
