use Rattle.std.proofs.Common.{◌∙◌, ap}
use Rattle.view_coverage.specs.Goals.{all_goals}
use Rattle.view_coverage.proofs.goals.all.goals_of.Goals as goal

pub returns : goal.returns
returns c =
    let symbols = c.in_ok-symbols.symbols in
    let rows = c.in_ok-definitions.ensures.definitions in
    record {
      symbols = symbols;
      names = rw rows at c.in_ok-symbols.ensures.names;
      are_all = c.in_ok-processes.ensures ∙ ap (λ rows. all_goals symbols.signals rows.processes) rows;
    }
