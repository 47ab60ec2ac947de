use Rattle.std.proofs.Common.{◌∙◌, ℕ, Option, Some, ap}
use Rattle.run_record.specs.Entry.{event_of}
use Rattle.run_record.specs.Event as event
use Rattle.run_record.specs.declared.entry.Entry.{Entry}
use Rattle.sdl_system.specs.declared.id.ProcessId.{ProcessId}
use Rattle.sdl_failures.proofs.replayed.create.tells_create.Goals as goal

pub returns-in-Some : goal.returns-in-Some
returns-in-Some c = λ yes values.
    ap (λ (e : Entry). event_of e values) c.in-Create.is
    ∙ ap (λ (p : ProcessId). event.Create p c.in-Create.pid) (c.is_process.ensures c.if-not-is_process.false)
    ∙ ap (λ (o : Option ℕ). event.Create c.args.created o) (c.in-Some.is ∙ ap Some (c.is_number.ensures yes))
