use Rattle.std.proofs.Common.{◌≤◌, ◌<◌, ◌∙◌, ap, arith, get_or, length, map, subst}
use Rattle.std.proofs.lemmas.List.{take_all}
use Rattle.build_definitions.specs.Definitions.{rows_of}
use Rattle.build_definitions.specs.Seen.{signal_list_seen}
use Rattle.build_network.specs.Lists.{list_at}
use Rattle.build_network.specs.Seen.{list_items}
use Rattle.build_network.proofs.BehindLemmas.{made_more}
use Rattle.build_network.proofs.lists.named_lists.Goals as goal

pub loop-entry-preserved : goal.loop-entry-preserved
loop-entry-preserved c =
    let entries = c.args.definitions.now.lists.items in
    let i = c.loop-entry.entry-index in
    let entry = c.entry-item.result in
    let same = c.deref-entry-items.ensures.value in
    record {
      lists =
          made_more list_items (list_at c.args.symbols.now (rows_of c.args.definitions.now).processes) signal_list_seen
          c.loop-entry.lists.items c.push.new.self.items _ entries i entry
          (subst (λ list. i < length list) same c.loop-entry-test.true)
          (c.entry-item.is ∙ ap (λ list. get_or list i entry) same) c.loop-entry.invariant.lists
          c.in_ok-push.ensures.items c.in_ok-items.ensures;
      count = omega (arith, c.in_ok-push.ensures.len, c.loop-entry.invariant.count);
    }

pub returns-clause-lists : goal.returns-clause-lists
returns-clause-lists c =
    let i = c.loop-entry.entry-index in
    c.loop-entry.invariant.lists
    ∙ ap (λ list. map (list_at c.args.symbols.now (rows_of c.args.definitions.now).processes) (map signal_list_seen list))
    (take_all i c.args.definitions.now.lists.items
    (subst (λ list. length list ≤ i) c.deref-entry-items.ensures.value c.loop-entry-test.false))
