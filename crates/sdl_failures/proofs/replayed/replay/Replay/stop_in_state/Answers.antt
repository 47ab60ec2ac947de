-- A condition fails in the state.
use Rattle.std.proofs.Common.{◌∙◌, ◌∷◌, [], Option, Some, ap, refl}
use Rattle.run_record.specs.Entry.{event_of}
use Rattle.run_record.specs.Event as event
use Rattle.run_record.specs.declared.entry.Entry.{Entry}
use Rattle.sdl_system.specs.declared.id.StateId.{StateId}
use Rattle.sdl_failures.specs.declared.replayed.spot.Spot.TheVariants.{Between}
use Rattle.sdl_failures.proofs.CameLemmas.{came_as}
use Rattle.sdl_failures.proofs.replayed.replay.Replay.stop_in_state.Goals as goal

pub returns : goal.returns
returns c = λ variables all came.
    let r = c.args.self.now in
    let state = c.in_ok-state.state in
    let only = c.in_ok-entry.ensures in
    let at = c.in-FailedAt.at in
    let why = c.in-FailedAt.why in
    record {
      at = at;
      came = came_as r.system.now r.process.now r.who variables all r.spot (Between (Some state)) r.known r.known
          r.left.left (event.FailedAt at why ∷ [])
          (c.in-Between.is ∙ ap (λ (o : Option StateId). Between o) c.in_ok-state.was) refl
          (only.1 ∙ ap (λ (e : Entry). event_of e only.0 ∷ []) c.in-FailedAt.is) came;
      fails = c.in_ok-condition.ensures;
    }
