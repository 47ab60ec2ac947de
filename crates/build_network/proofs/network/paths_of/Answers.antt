use Rattle.std.proofs.Common.{◌≡◌, ◌∙◌, ◌++◌, ◌+◌, ap, flat_map, length, map, sym}
use Rattle.std.proofs.lemmas.List.{length-map}
use Rattle.std.proofs.lemmas.Result.{IfOk-weaker, on_ok_weaker}
use Rattle.build_definitions.specs.Seen.{channel_seen}
use Rattle.build_network.specs.Paths.{carried, channel_paths, paths_from, placed_value}
use Rattle.build_network.specs.Seen.{list_items}
use Rattle.build_network.proofs.network.paths_of.Goals as goal

pub returns-clause-paths : goal.returns-clause-paths
returns-clause-paths c =
    let entries = c.deref.result.now in
    let placed : map placed_value entries ≡ flat_map channel_paths (map channel_seen c.args.channels.now) =
    ap (map placed_value) c.deref.ensures.value ∙ c.in_ok-paths.ensures.entries in
    IfOk-weaker c.add_paths.result _ _
    (λ paths is. is ∙ ap (paths_from c.args.symbols.now c.args.blocks.now (length c.args.lists.now.items)) placed)
    c.add_paths.ensures.paths

pub returns-clause-lists : goal.returns-clause-lists
returns-clause-lists c =
    let lists = map list_items c.args.lists.now.items in
    let entries = c.deref.result.now in
    let placed : map placed_value entries ≡ flat_map channel_paths (map channel_seen c.args.channels.now) =
    ap (map placed_value) c.deref.ensures.value ∙ c.in_ok-paths.ensures.entries in
    on_ok_weaker c.add_paths.result
    (λ is. is ∙ ap (λ paths. lists ++ map (carried c.args.symbols.now c.args.blocks.now) paths) placed)
    c.add_paths.ensures.lists

pub returns-clause-count : goal.returns-clause-count
returns-clause-count c =
    let entries = c.deref.result.now in
    let placed : map placed_value entries ≡ flat_map channel_paths (map channel_seen c.args.channels.now) =
    ap (map placed_value) c.deref.ensures.value ∙ c.in_ok-paths.ensures.entries in
    on_ok_weaker c.add_paths.result
    (λ is. is ∙ ap (λ count. length c.args.lists.now.items + count)
    (sym (length-map entries placed_value) ∙ ap length placed))
    c.add_paths.ensures.count
