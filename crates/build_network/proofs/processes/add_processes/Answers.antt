use Rattle.std.proofs.Common.{◌∙◌, ◌++◌, ◌+◌, ◌*◌, ◌∷◌, [], ap, arith, length, map, sym, take}
use Rattle.std.proofs.lemmas.List.{append_assoc}
use Rattle.build_definitions.specs.Seen.{process_seen}
use Rattle.build_network.proofs.NumberLemmas.{joined-map-step, numbered-map-step}
use Rattle.build_network.specs.Processes.{lists_of, process_at, process_lists, process_of}
use Rattle.build_network.specs.Seen.{list_items}
use Rattle.build_network.proofs.processes.add_processes.Goals as goal

pub loop-index-preserved : goal.loop-index-preserved
loop-index-preserved c =
    let symbols = c.args.symbols.now in
    let entries = c.args.entries.now in
    let i = c.loop-index.index in
    let entry = c.index-entries-index.result in
    let row = process_seen entry in
    let first = length c.args.lists.now.items in
    let lists = map list_items c.args.lists.now.items in
    record {
      processes =
          c.in_ok-push.ensures.items
          ∙ ap (λ process. c.loop-index.processes.items ++ process ∷ []) c.in_ok-process.ensures.process
          ∙ ap (λ n. c.loop-index.processes.items ++ process_at n row ∷ []) c.loop-index.invariant.count
          ∙ ap (λ list. list ++ process_at (first + 2 * i) row ∷ []) c.loop-index.invariant.processes
          ∙ sym (numbered-map-step entries i entry c.loop-index-test.true c.index-entries-index.is process_seen
          (process_of first) 0 i
          (omega arith));
      lists =
          c.in_ok-process.ensures.lists
          ∙ ap (λ list. list ++ lists_of symbols i row) c.loop-index.invariant.lists
          ∙ append_assoc lists (process_lists symbols (map process_seen (take i entries))) (lists_of symbols i row)
          ∙ ap (λ list. lists ++ list)
          (sym (joined-map-step entries i entry c.loop-index-test.true c.index-entries-index.is process_seen
          (lists_of symbols) 0 i
          (omega arith)));
      count = omega (arith, c.in_ok-process.ensures.count, c.loop-index.invariant.count);
    }
