-- The values go to the variables, one after the other.
use Rattle.std.proofs.Common.{◌≡◌, ◌∙◌, ◌∷◌, Option, ap, refl, rules, sym}
use Rattle.std.proofs.lemmas.Slice.Zip.{Zip-more, either_empty_from_Zip}
use Rattle.std.specs.Iterator.Adapters.{zip_first, zip_second}
use Rattle.std.specs.Slice.Iter.{iter_rest}
use Rattle.run_record.specs.Value.{placed}
use Rattle.run_record.specs.Variables.{VariableList}
use Rattle.run_record.specs.declared.evaluation.store.Store.{Store}
use Rattle.sdl_system.specs.declared.id.VariableId.{VariableId}
use Rattle.sdl_system.specs.declared.sort.Sort.{Sort}
use Rattle.sdl_failures.specs.Received.{received}
use Rattle.sdl_failures.proofs.ReceivedLemmas.{turn-dropped, turn-fits, turned-all}
use Rattle.sdl_failures.proofs.replayed.reception.receive.Goals as goal

pub loop-variable-init : goal.loop-variable-init
loop-variable-init c =
    let first : iter_rest (zip_first c.into_iter-variable-iterator.result) ≡ c.args.variables.now = search rules in
    let second : iter_rest (zip_second c.into_iter-variable-iterator.result) ≡ c.args.values.now = search rules in
    rw (first, second) refl

pub loop-variable-preserved-in-Some-variable : goal.loop-variable-preserved-in-Some-variable
loop-variable-preserved-in-Some-variable c =
    let process = c.args.process.now in
    let s = c.loop-variable.variable-iterator in
    let t = c.next.new.self in
    let variable = c.in-Some-variable.variable in
    let value = c.in-Some.value.now in
    let store : Store = c.loop-variable.store in
    let turn = Zip-more s t c.next.result (c.in-Some.variable, c.in-Some.value) c.in-Some.is c.next.ensures.steps in
    turn-fits process (received process c.args.variables.now c.args.values.now c.args.store.now)
    (iter_rest (zip_first s)) (iter_rest (zip_first t)) (iter_rest (zip_second s)) (iter_rest (zip_second t))
    variable value store c.loop-variable.invariant
    (turn.0 ∙ ap (λ (o : Option VariableId). o ∷ iter_rest (zip_first t)) c.in-Some-variable.is) turn.1
    c.in-Ok.value (record store { variables = c.set.new.self })
    (ap (λ (o : Option Sort). placed o value) (sym c.sort_of.ensures) ∙ sym c.place.ensures ∙ c.in-Ok.is)
    (ap (λ (vs : VariableList). record store { variables = vs }) c.set.ensures)

pub loop-variable-preserved : goal.loop-variable-preserved
loop-variable-preserved c =
    let process = c.args.process.now in
    let s = c.loop-variable.variable-iterator in
    let t = c.next.new.self in
    let value = c.in-Some.value.now in
    let turn = Zip-more s t c.next.result (c.in-Some.variable, c.in-Some.value) c.in-Some.is c.next.ensures.steps in
    turn-dropped process (received process c.args.variables.now c.args.values.now c.args.store.now)
    (iter_rest (zip_first s)) (iter_rest (zip_first t)) (iter_rest (zip_second s)) (iter_rest (zip_second t))
    value c.loop-variable.store c.loop-variable.invariant
    (turn.0 ∙ ap (λ (o : Option VariableId). o ∷ iter_rest (zip_first t)) c.in_default.is) turn.1

pub returns : goal.returns
returns c = λ told.
    turned-all c.args.process.now
    (received c.args.process.now c.args.variables.now c.args.values.now c.args.store.now)
    (iter_rest (zip_first c.loop-variable.variable-iterator)) (iter_rest (zip_second c.loop-variable.variable-iterator))
    c.loop-variable.store c.loop-variable.invariant
    (either_empty_from_Zip c.loop-variable.variable-iterator c.next.new.self c.next.result c.in-None.is
    c.next.ensures.steps)
