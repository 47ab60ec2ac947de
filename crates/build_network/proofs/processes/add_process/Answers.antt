use Rattle.std.proofs.Common.{◌∙◌, ◌++◌, ap, map}
use Rattle.std.proofs.lemmas.Result.{on_ok_weaker}
use Rattle.build_network.specs.Processes.{two_lists}
use Rattle.build_network.specs.Seen.{list_items, path_within, seen_at}
use Rattle.sdl_tree.specs.Views.{process_value}
use Rattle.build_network.proofs.processes.add_process.Goals as goal

pub returns-clause-lists : goal.returns-clause-lists
returns-clause-lists c =
    let process = process_value c.args.entry.now.definition.now in
    let lists = map list_items c.args.lists.now.items in
    on_ok_weaker c.add_lists.result
    (λ is. is ∙ ap (λ seen. lists ++ two_lists seen process) (c.seen_at-seen.ensures
    ∙ ap (seen_at c.args.symbols.now) (c.path_within.ensures
    ∙ ap (λ n. path_within (record { 0 = n }) c.args.entry.now.scope) c.in_ok-number.ensures.same)))
    c.add_lists.ensures.lists
