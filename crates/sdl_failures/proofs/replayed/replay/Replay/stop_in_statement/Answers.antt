-- A part of the statement fails.
use Rattle.std.proofs.Common.{◌∷◌, [], refl, sym}
use Rattle.run_record.specs.Event as event
use Rattle.sdl_failures.specs.declared.replayed.spot.Spot.TheVariants.{At}
use Rattle.sdl_failures.proofs.CameLemmas.{came_as}
use Rattle.sdl_failures.proofs.replayed.replay.Replay.stop_in_statement.Goals as goal

pub returns : goal.returns
returns c = λ variables all came.
    let r = c.args.self.now in
    let why = c.in_ok-why.why in
    let found = c.in_ok-found.found.now in
    record {
      came = came_as r.system.now r.process.now r.who variables all r.spot (At c.in-At.node c.in-At.part) r.known r.known
          r.left.left (event.Failed why ∷ []) c.in-At.is refl c.in_ok-why.ensures came;
      statement = found.statement;
      next = found.next;
      is = sym c.in_ok-found.ensures;
      fails = c.fails_at.ensures c.if-not-fails_at.false;
    }
