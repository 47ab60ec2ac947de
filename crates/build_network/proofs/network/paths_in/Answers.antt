use Rattle.std.proofs.Common.{◌≡◌, ◌∙◌, ◌++◌, ◌+◌, ap, flat_map, length, map}
use Rattle.std.proofs.lemmas.Result.{IfOk-weaker, on_ok_weaker}
use Rattle.build_definitions.specs.Seen.{block_seen, channel_seen}
use Rattle.build_network.specs.Agents.{block_names}
use Rattle.build_network.specs.Paths.{carried, channel_paths, paths_from}
use Rattle.build_network.specs.Seen.{list_items}
use Rattle.build_network.proofs.network.paths_in.Goals as goal

pub returns-clause-paths : goal.returns-clause-paths
returns-clause-paths c =
    let symbols = c.args.symbols.now in
    let first = length c.args.lists.now.items in
    let blocks = block_names (map block_seen c.args.definitions.now.blocks.items) in
    let named : c.in_ok-names.names ≡ blocks =
    c.in_ok-names.ensures ∙ ap (λ entries. block_names (map block_seen entries)) c.deref.ensures.value in
    IfOk-weaker c.paths_of.result _ _
    (λ paths is. is
    ∙ ap (λ names. paths_from symbols names first (flat_map channel_paths (map channel_seen c.deref-2.result.now)))
    named
    ∙ ap (λ entries. paths_from symbols blocks first (flat_map channel_paths (map channel_seen entries)))
    c.deref-2.ensures.value)
    c.paths_of.ensures.paths

pub returns-clause-lists : goal.returns-clause-lists
returns-clause-lists c =
    let symbols = c.args.symbols.now in
    let lists = map list_items c.args.lists.now.items in
    let blocks = block_names (map block_seen c.args.definitions.now.blocks.items) in
    let named : c.in_ok-names.names ≡ blocks =
    c.in_ok-names.ensures ∙ ap (λ entries. block_names (map block_seen entries)) c.deref.ensures.value in
    on_ok_weaker c.paths_of.result
    (λ is. is
    ∙ ap (λ names. lists ++ map (carried symbols names)
    (flat_map channel_paths (map channel_seen c.deref-2.result.now))) named
    ∙ ap (λ entries. lists ++ map (carried symbols blocks) (flat_map channel_paths (map channel_seen entries)))
    c.deref-2.ensures.value)
    c.paths_of.ensures.lists

pub returns-clause-count : goal.returns-clause-count
returns-clause-count c =
    on_ok_weaker c.paths_of.result
    (λ is. is ∙ ap (λ entries. length c.args.lists.now.items
    + length (flat_map channel_paths (map channel_seen entries)))
    c.deref-2.ensures.value)
    c.paths_of.ensures.count
