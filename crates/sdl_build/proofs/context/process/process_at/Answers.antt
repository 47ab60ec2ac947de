use Rattle.std.proofs.Common.{◌∙◌, ap}
use Rattle.sdl_build.proofs.AroundLemmas.{same-with}
use Rattle.sdl_build.proofs.ProcessLemmas.{made-if, not-made, not-noted, noted-in}
use Rattle.sdl_build.proofs.StateLemmas.{different-named, numbered-named}
use Rattle.sdl_build.specs.Around.{context_of}
use Rattle.sdl_build.specs.ProcessScope.{reaching}
use Rattle.build_definitions.specs.Seen.{process_seen}
use Rattle.build_process.specs.ProcessScope.{ProcessScope}
use Rattle.build_names.specs.States.{different, state_names}
use Rattle.build_states.specs.Tabled.{is_state}
use Rattle.sdl_tree.specs.Views.{process_value}
use Rattle.sdl_build.proofs.context.process.process_at.Goals as goal

pub make_process-requires-clause-names : goal.make_process-requires-clause-names
make_process-requires-clause-names c = c.process_scope-within.ensures.names ∙ c.in_ok-own.ensures.names

pub make_process-requires-clause-table : goal.make_process-requires-clause-table
make_process-requires-clause-table c = λ text.
    ap (λ (around : ProcessScope). is_state around.states text) c.process_scope-within.ensures.around
    ∙ ap (λ states. is_state states text) c.in_ok-own.ensures.states
    ∙ numbered-named 0 (different (state_names (process_value c.args.entry.now.definition.now))) text
    ∙ different-named (state_names (process_value c.args.entry.now.definition.now)) text

pub returns-clause-made : goal.returns-clause-made
returns-clause-made c =
    let context = context_of c.args.definitions.now c.args.symbols.now c.args.constant_table.now
    c.args.connections.now in
    made-if context c.args.number (process_seen c.args.entry.now) _ _ c.make_process.result
    (c.process_scope-within.ensures.around
    ∙ same-with context c.args.number _ _ _ _ _ _ c.in_ok-own.ensures.states c.in_ok-own.ensures.labels
    (c.in_ok-own.ensures.reaches
    ∙ ap (reaching c.args.connections.now.routes c.args.number) c.requires.known.is_network.signals))
    c.in_ok-heading.ensures c.make_process.ensures.there c.make_process.ensures.headed c.make_process.ensures.means
    c.make_process.ensures.keeps

pub returns-clause-noted : goal.returns-clause-noted
returns-clause-noted c =
    let context = context_of c.args.definitions.now c.args.symbols.now c.args.constant_table.now
    c.args.connections.now in
    noted-in context c.args.number (process_seen c.args.entry.now) _ _ _ c.make_process.result
    (c.process_scope-within.ensures.around
    ∙ same-with context c.args.number _ _ _ _ _ _ c.in_ok-own.ensures.states c.in_ok-own.ensures.labels
    (c.in_ok-own.ensures.reaches
    ∙ ap (reaching c.args.connections.now.routes c.args.number) c.requires.known.is_network.signals))
    c.make_process.ensures.noted

pub returns-in_err-heading-clause-made : goal.returns-in_err-heading-clause-made
returns-in_err-heading-clause-made c = not-made c.from_residual.result _ _ c.from_residual.ensures.1

pub returns-in_err-heading-clause-noted : goal.returns-in_err-heading-clause-noted
returns-in_err-heading-clause-noted c = not-noted c.from_residual.result _ _ c.from_residual.ensures.1

pub returns-in_err-own-clause-made : goal.returns-in_err-own-clause-made
returns-in_err-own-clause-made c = not-made c.from_residual-in_err-own.result _ _ c.from_residual-in_err-own.ensures.1

pub returns-in_err-own-clause-noted : goal.returns-in_err-own-clause-noted
returns-in_err-own-clause-noted c = not-noted c.from_residual-in_err-own.result _ _ c.from_residual-in_err-own.ensures.1
