-- The create of the node, and the next event.
use Rattle.std.proofs.Common.{◌≡◌, ◌∙◌, ◌∷◌, ℕ, Some, ap, slice_get, subst, sym}
use Rattle.run_record.specs.Event.{Event}
use Rattle.sdl_system.specs.declared.statement.Node.{Node}
use Rattle.sdl_system.specs.declared.statement.Statement.{Statement}
use Rattle.sdl_failures.specs.declared.replayed.spot.Spot.TheVariants.{At}
use Rattle.sdl_failures.proofs.replayed.replay.Replay.creation.Goals as goal

pub returns : goal.returns
returns c =
    let r = c.args.self.now in
    let node = c.in-At.node in
    let next = c.in_ok-next.next in
    let found = c.in_ok-found.found.now in
    record {
      node = node;
      spot = c.in-At.is ∙ ap (λ (part : ℕ). At node part) c.if-part-ne0.false;
      next = found.next;
      is = subst (λ (s : Statement). let n : Node = record { statement = s; next = found.next } in
          slice_get r.process.now.nodes.items node.0 ≡ Some n) c.in-Create.is (sym c.in_ok-found.ensures);
      same = c.is_process.ensures c.if-not-is_process.false;
      later = next.rest.left;
      told = c.in_ok-next.ensures.left
          ∙ ap (λ (e : Event). e ∷ next.rest.left)
          (c.tells_create.ensures c.if-not-tells_create.false next.values.now);
    }
