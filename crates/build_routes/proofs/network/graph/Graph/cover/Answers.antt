use Rattle.std.proofs.Common.{◌++◌, [], ◌∷◌, inl, ◌∙◌, arith}
use Rattle.std.proofs.lemmas.Bool.{cases_cond}
use Rattle.std.specs.Result.{is_ok}
use Rattle.build_routes.specs.declared.network.graph.Row.{Row}
use Rattle.build_routes.proofs.GraphLemmas.{covers_one, stays_closed}
use Rattle.build_routes.proofs.network.graph.Graph.cover.Goals as goal

pub invariant_of-self : goal.invariant_of-self
invariant_of-self c =
    let old = c.loop-alloc.self.rows.items in
    let fresh : Row = record { steps = c.new.result } in
    let more = covers_one old c.push.new.self.items fresh c.new.ensures.items
    (cases_cond (is_ok c.push.result) (old ++ fresh ∷ []) old c.push.new.self.items c.push.ensures.items) in
    record { closed = stays_closed old c.push.new.self.items c.loop-alloc.self.closed more.0 more.1 }

pub loop-alloc-preserved : goal.loop-alloc-preserved
loop-alloc-preserved c =
    let old = c.loop-alloc.self.rows.items in
    let fresh : Row = record { steps = c.new.result } in
    let more = covers_one old c.push.new.self.items fresh c.new.ensures.items (inl c.in_ok-push.ensures.items) in
    record { same = λ n. more.0 n ∙ c.loop-alloc.invariant.same n; grown = omega (arith, more.1, c.loop-alloc.invariant.grown) }
