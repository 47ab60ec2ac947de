use Rattle.std.proofs.Common.{◌∙◌, ◌++◌, ◌+◌, ◌∷◌, [], ap, arith, length, map, sym, take}
use Rattle.std.proofs.lemmas.List.{append_assoc, map-append}
use Rattle.build_network.proofs.NumberLemmas.{mapped-step, numbered-map-step}
use Rattle.build_network.specs.Paths.{carried, path_of, placed_value}
use Rattle.build_network.specs.Seen.{list_items}
use Rattle.build_network.proofs.paths.add_paths.Goals as goal

pub loop-entry-preserved : goal.loop-entry-preserved
loop-entry-preserved c =
    let symbols = c.args.symbols.now in
    let blocks = c.args.blocks.now in
    let entries = c.args.entries.now in
    let i = c.loop-entry.entry-index in
    let entry = c.entry-item.result in
    let placed = placed_value entry in
    let first = length c.args.lists.now.items in
    let before = map placed_value (take i entries) in
    let lists = map list_items c.args.lists.now.items in
    record {
      paths =
          c.in_ok-push.ensures.items
          ∙ ap (λ path. c.loop-entry.paths.items ++ path ∷ []) c.in_ok-path.ensures.path
          ∙ ap (λ n. c.loop-entry.paths.items ++ path_of symbols blocks n placed ∷ []) c.loop-entry.invariant.count
          ∙ ap (λ list. list ++ path_of symbols blocks (first + i) placed ∷ []) c.loop-entry.invariant.paths
          ∙ sym (numbered-map-step entries i entry c.loop-entry-test.true c.entry-item.is placed_value
          (path_of symbols blocks) first (first + i) (omega arith));
      lists =
          c.in_ok-path.ensures.lists
          ∙ ap (λ list. list ++ carried symbols blocks placed ∷ []) c.loop-entry.invariant.lists
          ∙ append_assoc lists (map (carried symbols blocks) before) (carried symbols blocks placed ∷ [])
          ∙ ap (λ list. lists ++ list)
          (sym (ap (map (carried symbols blocks)) (mapped-step entries i entry c.loop-entry-test.true c.entry-item.is
          placed_value)
          ∙ map-append (carried symbols blocks) before (placed ∷ [])));
      count = omega (arith, c.in_ok-path.ensures.count, c.loop-entry.invariant.count);
    }
