use Rattle.std.proofs.Common.{◌∙◌, ap}
use Rattle.sdl_build.proofs.AroundLemmas.{same-around}
use Rattle.build_constants.specs.Scopes.{scope_at}
use Rattle.build_names.specs.Labels.{names_listed}
use Rattle.build_expressions.specs.Scope.{meaning, visible}
use Rattle.build_names.specs.Spaces.{seen_in}
use Rattle.build_states.specs.Context.{listed_members, members_of}
use Rattle.sdl_build.proofs.context.process.process_scope.Goals as goal

pub returns-clause-around : goal.returns-clause-around
returns-clause-around c =
    let symbols = c.args.symbols.now in
    let members = c.args.connections.now.members.items in
    same-around _ _ _ _ _ _ _ _ _ _ _ _
    (c.scope_at.ensures
    ∙ ap (λ constants. scope_at symbols constants c.path_of-path.result) c.deref.ensures.value
    ∙ ap (scope_at symbols c.args.constant_table.now.constants.items) c.path_of-path.ensures)
    (ap (λ all. meaning (members_of (listed_members all)) (visible c.outward.result)) c.deref-2.ensures.value
    ∙ ap (meaning (members_of (listed_members members)))
    (c.outward.ensures.seen ∙ ap (seen_in symbols.lists) c.path_of-path.ensures))
    c.deref-4.ensures.value (c.deref-5.ensures.value ∙ c.requires.known.is_constant_table.durations)
    c.requires.known.is_network.signals

pub returns-clause-names : goal.returns-clause-names
returns-clause-names c = ap names_listed c.deref-3.ensures.value
