-- It begins with all events.
use Rattle.std.proofs.Common.{None, ap, refl, sym}
use Rattle.port_model.specs.Port.{empty_port}
use Rattle.run_record.specs.Environment.{initial_store}
use Rattle.run_record.specs.declared.evaluation.identity.Identity.{Identity}
use Rattle.view_timeline.specs.Cursor.{CursorValue}
use Rattle.sdl_failures.proofs.CameLemmas.{came_as}
use Rattle.sdl_failures.specs.Came.{begins}
use Rattle.sdl_failures.specs.Known.{KnownValue}
use Rattle.sdl_failures.specs.declared.replayed.spot.Spot.TheVariants.{Between}
use Rattle.sdl_failures.proofs.replayed.replay.Replay.new.Goals as goal

pub returns-clause-came : goal.returns-clause-came
returns-clause-came c =
    let trace = c.args.trace.now in
    let variables = c.args.variables in
    let who : Identity = record { process = c.process.result; pid = c.pid.result; parent = c.parent.result } in
    let known : KnownValue = record { store = initial_store variables; port = empty_port } in
    came_as c.args.system.now c.args.process.now who variables trace.events (Between None) (Between None) known
    c.new-known.result trace.events c.in_ok-left.left.left refl (sym c.new-known.ensures)
    (sym (ap (λ (x : CursorValue). x.left) c.in_ok-left.ensures)) begins
