use Rattle.std.proofs.Common.{◌≡◌, ◌∙◌, ◌∷◌, None, Option, Some, ap, refl, rules, sym}
use Rattle.std.proofs.lemmas.Result.{err_from_is_err_and}
use Rattle.std.proofs.lemmas.Slice.Zip.{Zip-more, either_empty_from_Zip}
use Rattle.std.specs.Iterator.Adapters.{zip_first, zip_second}
use Rattle.std.specs.Slice.Iter.{iter_rest}
use Rattle.run_record.specs.Value.{placed}
use Rattle.run_record.specs.Variables.{VariableList}
use Rattle.sdl_interp.proofs.ReceptionLemmas.{left_dropped, left_none, left_same, left_taken, left_wrong, sort_is}
use Rattle.run_semantics.proofs.Goes.{goes_still}
use Rattle.run_semantics.specs.ControlPoint.{Receiving}
use Rattle.sdl_interp.specs.Machine.{value_of}
use Rattle.sdl_system.specs.declared.id.VariableId.{VariableId}
use Rattle.sdl_system.specs.declared.sort.Sort.{Sort}
use Rattle.sdl_interp.proofs.reception.hand_out.Goals as goal

pub loop-variable-init : goal.loop-variable-init
loop-variable-init c =
    let first : iter_rest (zip_first c.into_iter-variable-iterator.result) ≡ c.args.variables.now = search rules in
    let second : iter_rest (zip_second c.into_iter-variable-iterator.result) ≡ c.args.values.now = search rules in
    record {
      trace = refl;
      goes = λ d has origin next owner w.
          rw (first, second)
          (goes_still d (Receiving origin c.args.variables.now c.args.values.now next)
          (value_of c.args.machine.now owner) w);
    }

pub loop-variable-preserved-in-Some-variable : goal.loop-variable-preserved-in-Some-variable
loop-variable-preserved-in-Some-variable c =
    let k = c.loop-variable.machine in
    let s = c.loop-variable.variable-iterator in
    let t = c.next.new.self in
    let variable = c.in-Some-variable.variable in
    let value = c.in-Some.value.now in
    let turn = Zip-more s t c.next.result (c.in-Some.variable, c.in-Some.value) c.in-Some.is c.next.ensures.steps in
    record {
      trace = c.loop-variable.invariant.trace;
      goes = λ d has origin next owner w.
          left_taken d origin next owner w c.args.variables.now c.args.values.now c.args.machine.now variable
          (iter_rest (zip_first t)) value c.in_ok-value.value (iter_rest (zip_second t)) k
          (record k { store = record k.store { variables = c.set.new.self } })
          (ap (λ (o : Option Sort). placed o value)
          (sort_is c.args.process.now d variable has ∙ sym c.sort_of.ensures)
          ∙ sym c.in_ok-value.ensures)
          refl (ap (λ (vs : VariableList). record k.store { variables = vs }) c.set.ensures)
          (left_same d origin next owner w c.args.variables.now c.args.values.now c.args.machine.now
          (iter_rest (zip_first s)) (Some variable ∷ iter_rest (zip_first t))
          (iter_rest (zip_second s)) (value ∷ iter_rest (zip_second t)) k
          (turn.0 ∙ ap (λ (o : Option VariableId). o ∷ iter_rest (zip_first t)) c.in-Some-variable.is) turn.1
          (c.loop-variable.invariant.goes d has origin next owner w));
    }

pub loop-variable-preserved : goal.loop-variable-preserved
loop-variable-preserved c =
    let k = c.loop-variable.machine in
    let s = c.loop-variable.variable-iterator in
    let t = c.next.new.self in
    let value = c.in-Some.value.now in
    let turn = Zip-more s t c.next.result (c.in-Some.variable, c.in-Some.value) c.in-Some.is c.next.ensures.steps in
    record {
      trace = c.loop-variable.invariant.trace;
      goes = λ d has origin next owner w.
          left_dropped d origin next owner w c.args.variables.now c.args.values.now c.args.machine.now
          (iter_rest (zip_first t)) value (iter_rest (zip_second t)) k
          (left_same d origin next owner w c.args.variables.now c.args.values.now c.args.machine.now
          (iter_rest (zip_first s)) (None ∷ iter_rest (zip_first t))
          (iter_rest (zip_second s)) (value ∷ iter_rest (zip_second t)) k
          (turn.0 ∙ ap (λ (o : Option VariableId). o ∷ iter_rest (zip_first t)) c.in_default.is) turn.1
          (c.loop-variable.invariant.goes d has origin next owner w));
    }

pub returns-in_err-value-clause-err : goal.returns-in_err-value-clause-err
returns-in_err-value-clause-err c =
    let q = err_from_is_err_and c.from_residual.result c.from_residual.ensures.1 in
    let k = c.loop-variable.machine in
    let s = c.loop-variable.variable-iterator in
    let t = c.next.new.self in
    let variable = c.in-Some-variable.variable in
    let value = c.in-Some.value.now in
    let turn = Zip-more s t c.next.result (c.in-Some.variable, c.in-Some.value) c.in-Some.is c.next.ensures.steps in
    rw (q.1, q.2) (λ d has origin next owner w.
    left_wrong d origin next owner w c.args.variables.now c.args.values.now c.args.machine.now variable
    (iter_rest (zip_first t)) value (iter_rest (zip_second t)) k _
    (ap (λ (o : Option Sort). placed o value) (sort_is c.args.process.now d variable has ∙ sym c.sort_of.ensures)
    ∙ sym c.in_err-value.ensures)
    (left_same d origin next owner w c.args.variables.now c.args.values.now c.args.machine.now
    (iter_rest (zip_first s)) (Some variable ∷ iter_rest (zip_first t))
    (iter_rest (zip_second s)) (value ∷ iter_rest (zip_second t)) k
    (turn.0 ∙ ap (λ (o : Option VariableId). o ∷ iter_rest (zip_first t)) c.in-Some-variable.is) turn.1
    (c.loop-variable.invariant.goes d has origin next owner w)))

pub returns-clause-ok : goal.returns-clause-ok
returns-clause-ok c = λ d has origin next owner w.
    left_none d origin next owner w c.args.variables.now c.args.values.now c.args.machine.now
    (iter_rest (zip_first c.loop-variable.variable-iterator)) (iter_rest (zip_second c.loop-variable.variable-iterator))
    c.loop-variable.machine
    (either_empty_from_Zip c.loop-variable.variable-iterator c.next.new.self c.next.result c.in-None.is
    c.next.ensures.steps)
    (c.loop-variable.invariant.goes d has origin next owner w)
