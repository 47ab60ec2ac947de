use Rattle.std.proofs.Common.{◌∙◌, ap, map}
use Rattle.build_definitions.specs.Seen.{process_seen}
use Rattle.build_names.specs.Labels.{names_listed}
use Rattle.sdl_tree.specs.Views.{body_part_value, process_value}
use Rattle.view_coverage.proofs.GoalLemmas.{goals-made, signals-on}
use Rattle.view_coverage.specs.Stimuli.{signal_on, signal_outward, stimuli_in}
use Rattle.view_coverage.proofs.goals.all.process_goals.Goals as goal

pub returns : goal.returns
returns c =
    let rows = map process_seen c.args.definitions.now.processes.items in
    let spaces = c.args.symbols.now.signals in
    let names = c.outward-signals.result in
    let states = c.in_ok-states.states.items in
    let signals =
    signals-on names spaces c.path_of-path.result c.outward-signals.ensures.process c.outward-signals.ensures.block
    c.outward-signals.ensures.system in
    let stimuli =
    c.in_ok-stimuli.ensures
    ∙ ap (λ own. stimuli_in (signal_outward names) (names_listed own) (map body_part_value c.deref.result.now))
    c.deref-2.ensures.value
    ∙ ap (λ body. stimuli_in (signal_outward names) (names_listed states) (map body_part_value body))
    c.deref.ensures.value in
    goals-made spaces rows c.args.process (process_value c.args.definition.now) (names_listed states)
    (signal_outward names) c.in_ok-stimuli.stimuli.items c.in_ok-states.ensures
    (signals ∙ ap (signal_on spaces) c.path_of-path.ensures) stimuli
