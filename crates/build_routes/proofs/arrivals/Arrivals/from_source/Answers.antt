use Rattle.std.proofs.Common.{◌++◌, ◌∷◌, [], ◌-◌, ◌^◌, ◌%◌, ap, ◌∙◌, sym, arith}
use Rattle.build_routes.specs.Rows.{rows_of}
use Rattle.build_routes.specs.SignalLists.{column_of}
use Rattle.build_routes.proofs.PathLemmas.{env_reached, opens, process_reached, starts_at, starts_with}
use Rattle.build_routes.proofs.arrivals.Arrivals.from_source.Goals as goal

pub returns : goal.returns
returns c = record {
  processes = λ p signal below word.
      process_reached c.args.network.now signal c.args.source c.requires.graph.flags (rows_of c.args.graph.now) c.column-column.result.now
      c.push.new.self.items c.in_ok-masks.masks.items (signal.0 % 64) c.requires.is_source c.requires.graph.are c.requires.graph.leads
      (opens c.args.network.now signal c.args.sets.now c.column-column.result.now (c.column-column.ensures ∙ ap (λ n. column_of c.args.sets.now n) (sym word)) (λ list. c.requires.sets list signal below))
      (starts_at c.push.new.self.items (c.in_ok-push.ensures.items ∙ ap (λ xs. xs ++ (2 ^ 64 - 1) ∷ []) c.new-start.ensures.items) (signal.0 % 64)) (starts_with c.push.new.self.items (c.in_ok-push.ensures.items ∙ ap (λ xs. xs ++ (2 ^ 64 - 1) ∷ []) c.new-start.ensures.items) (signal.0 % 64) (omega arith))
      c.in_ok-masks.ensures p;
  env = λ signal below word.
      env_reached c.args.network.now signal c.args.source c.requires.graph.flags (rows_of c.args.graph.now) c.column-column.result.now
      c.push.new.self.items c.in_ok-masks.masks.items (signal.0 % 64) c.requires.is_source c.requires.graph.are c.requires.graph.leads
      (opens c.args.network.now signal c.args.sets.now c.column-column.result.now (c.column-column.ensures ∙ ap (λ n. column_of c.args.sets.now n) (sym word)) (λ list. c.requires.sets list signal below))
      (starts_at c.push.new.self.items (c.in_ok-push.ensures.items ∙ ap (λ xs. xs ++ (2 ^ 64 - 1) ∷ []) c.new-start.ensures.items) (signal.0 % 64)) (starts_with c.push.new.self.items (c.in_ok-push.ensures.items ∙ ap (λ xs. xs ++ (2 ^ 64 - 1) ∷ []) c.new-start.ensures.items) (signal.0 % 64) (omega arith))
      c.in_ok-masks.ensures;
}
