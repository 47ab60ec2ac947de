-- A value that doesn't fit, behind those that do.
use Rattle.std.proofs.Common.{◌≡◌, ◌∙◌, ◌∷◌, Option, ap, refl, rules, sym}
use Rattle.std.proofs.lemmas.Slice.Zip.{Zip-more}
use Rattle.std.specs.Iterator.Adapters.{zip_first, zip_second}
use Rattle.std.specs.Slice.Iter.{iter_rest}
use Rattle.run_record.specs.Value.{placed}
use Rattle.run_semantics.specs.Reception.{assigned}
use Rattle.sdl_system.specs.declared.id.VariableId.{VariableId}
use Rattle.sdl_system.specs.declared.sort.Sort.{Sort}
use Rattle.sdl_failures.specs.Received.{received}
use Rattle.sdl_failures.proofs.ReceivedLemmas.{turn-dropped, turn-fits, turn-misfit}
use Rattle.sdl_failures.proofs.replayed.reception.misfit_of.Goals as goal

pub loop-variable-init : goal.loop-variable-init
loop-variable-init c = λ s.
    let first : iter_rest (zip_first c.into_iter-variable-iterator.result) ≡ c.args.variables.now = search rules in
    let second : iter_rest (zip_second c.into_iter-variable-iterator.result) ≡ c.args.values.now = search rules in
    (s, rw (first, second) refl)

pub loop-variable-preserved-in_default-place : goal.loop-variable-preserved-in_default-place
loop-variable-preserved-in_default-place c = λ x.
    let process = c.args.process.now in
    let s = c.loop-variable.variable-iterator in
    let t = c.next.new.self in
    let variable = c.in-Some-variable.variable in
    let value = c.in-Some.value.now in
    let turn = Zip-more s t c.next.result (c.in-Some.variable, c.in-Some.value) c.in-Some.is c.next.ensures.steps in
    let taken = c.in_default-place.field-0 in
    let before = c.loop-variable.invariant x in (
      assigned variable taken before.0,
      turn-fits process (received process c.args.variables.now c.args.values.now x)
          (iter_rest (zip_first s)) (iter_rest (zip_first t)) (iter_rest (zip_second s)) (iter_rest (zip_second t))
          variable value before.0 before.1
          (turn.0 ∙ ap (λ (o : Option VariableId). o ∷ iter_rest (zip_first t)) c.in-Some-variable.is) turn.1
          taken (assigned variable taken before.0)
          (ap (λ (o : Option Sort). placed o value) (sym c.sort_of.ensures) ∙ sym c.place.ensures
          ∙ c.in_default-place.is)
          refl,
    )

pub loop-variable-preserved : goal.loop-variable-preserved
loop-variable-preserved c = λ x.
    let process = c.args.process.now in
    let s = c.loop-variable.variable-iterator in
    let t = c.next.new.self in
    let value = c.in-Some.value.now in
    let turn = Zip-more s t c.next.result (c.in-Some.variable, c.in-Some.value) c.in-Some.is c.next.ensures.steps in
    let before = c.loop-variable.invariant x in (
      before.0,
      turn-dropped process (received process c.args.variables.now c.args.values.now x)
          (iter_rest (zip_first s)) (iter_rest (zip_first t)) (iter_rest (zip_second s)) (iter_rest (zip_second t))
          value before.0 before.1
          (turn.0 ∙ ap (λ (o : Option VariableId). o ∷ iter_rest (zip_first t)) c.in_default.is) turn.1,
    )

pub returns-in-Err : goal.returns-in-Err
returns-in-Err c = λ x.
    let process = c.args.process.now in
    let s = c.loop-variable.variable-iterator in
    let t = c.next.new.self in
    let variable = c.in-Some-variable.variable in
    let value = c.in-Some.value.now in
    let turn = Zip-more s t c.next.result (c.in-Some.variable, c.in-Some.value) c.in-Some.is c.next.ensures.steps in
    let before = c.loop-variable.invariant x in
    turn-misfit process (received process c.args.variables.now c.args.values.now x)
    (iter_rest (zip_first s)) (iter_rest (zip_first t)) (iter_rest (zip_second s)) (iter_rest (zip_second t))
    variable value before.0 before.1
    (turn.0 ∙ ap (λ (o : Option VariableId). o ∷ iter_rest (zip_first t)) c.in-Some-variable.is) turn.1
    c.in-Err.why
    (ap (λ (o : Option Sort). placed o value) (sym c.sort_of.ensures) ∙ sym c.place.ensures ∙ c.in-Err.is)
