-- The values of the create at which it stands.
use Rattle.std.proofs.Common.{◌∙◌, ◌∷◌, Some, refl}
use Rattle.run_record.specs.Knowledge.{KnowledgeValue}
use Rattle.run_record.specs.Event as event
use Rattle.run_semantics.specs.Fails.{parameters_of}
use Rattle.sdl_failures.specs.declared.replayed.spot.Spot.TheVariants.{At}
use Rattle.sdl_failures.proofs.CameLemmas.{came_as}
use Rattle.sdl_failures.proofs.CreateLemmas.{evaluated_as}
use Rattle.sdl_failures.proofs.replayed.replay.Replay.created.Goals as goal

pub returns-in-Ok : goal.returns-in-Ok
returns-in-Ok c = λ variables all came.
    let r = c.args.self.now in
    let at = c.in-Some.ensures in
    let creation = c.in-Some.creation.now in
    let k : KnowledgeValue =
    record { system = r.system.now; who = r.who; store = r.known.store; port = r.known.port } in
    record {
      node = at.node;
      known = r.known;
      later = at.later;
      came = came_as r.system.now r.process.now r.who variables all r.spot (At at.node 0) r.known r.known r.left.left
          (event.Create c.args.created (Some c.args.number) ∷ at.later) at.spot refl at.told came;
      creation = creation;
      next = at.next;
      is = at.is;
      same = at.same;
      evaluated = evaluated_as c.knowledge-knowledge.result k c.deref-2.result.now
          (parameters_of r.system.now c.args.created) c.deref.result.now creation.values.items c.in-Ok.values
          c.knowledge-knowledge.ensures (c.deref-2.ensures.value ∙ c.in_ok-sorts.ensures) c.deref.ensures.value
          c.in-Ok.ensures.ok;
    }
