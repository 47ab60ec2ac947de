use Rattle.std.proofs.Common.{◌≡◌, ◌<◌, ◌++◌, [], ◌∷◌, length, inl, inr, ◌∙◌, arith, ap}
use Rattle.std.proofs.lemmas.Bool.{cases_cond}
use Rattle.std.specs.Result.{is_ok}
use Rattle.build_routes.specs.Graph.{row}
use Rattle.build_routes.specs.declared.network.graph.Row.{Row}
use Rattle.build_routes.proofs.GraphLemmas.{adds_one, closed_with, row-read}
use Rattle.build_routes.proofs.network.graph.Graph.add.Goals as goal

pub invariant_of-self : goal.invariant_of-self
invariant_of-self c =
    let rows = c.cover-2.new.self.rows.items in
    let read = c.index_mut.result.now in
    let new : Row = record { steps = c.push.new.self } in
    let within : c.args.from < length rows = omega (arith, c.in_ok-cover.ensures.covered, c.in_ok-cover-2.ensures.grown) in
    let to : c.args.step.to < length rows = omega (arith, c.in_ok-cover-2.ensures.covered) in
    let at : read.steps.items ≡ row rows c.args.from = row-read rows c.args.from read within c.index_mut.ensures.value in
    record {
      closed = closed_with rows c.args.from c.args.step new c.cover-2.new.self.closed within to
          (elim (cases_cond (is_ok c.push.result) (read.steps.items ++ c.args.step ∷ []) read.steps.items c.push.new.self.items c.push.ensures.items) [
            | inl more ↦ inl (more ∙ ap (λ steps. steps ++ c.args.step ∷ []) at)
            | inr same ↦ inr (same ∙ at)
          ]);
    }

pub returns : goal.returns
returns c =
    let rows = c.cover-2.new.self.rows.items in
    let read = c.index_mut.result.now in
    let new : Row = record { steps = c.push.new.self } in
    let within : c.args.from < length rows = omega (arith, c.in_ok-cover.ensures.covered, c.in_ok-cover-2.ensures.grown) in
    let at : read.steps.items ≡ row rows c.args.from = row-read rows c.args.from read within c.index_mut.ensures.value in
    adds_one c.args.self.now.rows.items rows c.args.from c.args.step new
    (λ n. c.in_ok-cover-2.ensures.same n ∙ c.in_ok-cover.ensures.same n) within
    (c.in_ok-push.ensures.items ∙ ap (λ steps. steps ++ c.args.step ∷ []) at)
