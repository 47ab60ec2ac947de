-- A value doesn't fit.
use Rattle.std.proofs.Common.{◌∙◌, ◌∷◌, [], List, Option, Some, ap, refl, sym}
use Rattle.port_model.specs.declared.values.value.Value.{Value}
use Rattle.run_record.specs.Entry.{event_of, got_of}
use Rattle.run_record.specs.Event as event
use Rattle.run_record.specs.Event.{Event}
use Rattle.sdl_system.specs.declared.id.StateId.{StateId}
use Rattle.sdl_system.specs.declared.id.VariableId.{VariableId}
use Rattle.sdl_failures.specs.Received.{received}
use Rattle.sdl_failures.specs.Told.{begun_at}
use Rattle.sdl_failures.specs.declared.replayed.spot.Spot.TheVariants.{Between}
use Rattle.sdl_failures.proofs.CameLemmas.{came_as}
use Rattle.sdl_failures.proofs.GotLemmas.{name-got, values-got}
use Rattle.sdl_failures.proofs.replayed.replay.Replay.stop_in_reception.Goals as goal

pub returns : goal.returns
returns c = λ variables all came.
    let r = c.args.self.now in
    let process = r.process.now in
    let state = c.in_ok-state.state in
    let next = c.in_ok-next.next in
    let got = c.in_ok-got.got in
    let why = c.in_ok-why.why in
    let reception = c.in_ok-reception.reception.now in
    let values = next.values.now in
    let took : Event = event_of next.entry values in
    let takes = c.in_ok-got.ensures values in
    let s = begun_at r.who.pid takes.at (got_of got values) r.known.store in
    record {
      got = got_of got values;
      took = took;
      came = came_as r.system.now process r.who variables all r.spot (Between (Some state)) r.known r.known
          r.left.left (took ∷ event.Failed why ∷ [])
          (c.in-Between.is ∙ ap (λ (o : Option StateId). Between o) c.in_ok-state.was) refl
          (c.in_ok-next.ensures.left ∙ ap (λ (rest : List Event). took ∷ rest) c.in_ok-why.ensures) came;
      takes = takes;
      name = name-got got.origin got.name values;
      reception = reception;
      begins = sym c.in_ok-reception.ensures;
      fails = ap (λ (vs : List Value). received process reception.variables.items vs s)
          (values-got got.origin got.name values)
          ∙ ap (λ (list : List (Option VariableId)). received process list values s) (sym c.deref.ensures.value)
          ∙ c.in_ok-misfit.ensures s;
      cause = c.is_same.ensures c.if-not-is_same.false;
    }
