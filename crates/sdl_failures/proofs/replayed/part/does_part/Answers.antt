-- By the kind of the statement.
use Rattle.std.proofs.Common.{List, subst, sym}
use Rattle.run_record.specs.Entry.{event_of}
use Rattle.sdl_system.specs.declared.statement.Assignment.{Assignment}
use Rattle.sdl_system.specs.declared.statement.Setting.{Setting}
use Rattle.sdl_system.specs.declared.statement.Statement.{Statement}
use Rattle.sdl_system.specs.declared.statement.TimerUse.{TimerUse}
use Rattle.sdl_failures.specs.Part.{DoesPart, DoesReset, DoesSet, DoesTask}
use Rattle.sdl_failures.proofs.replayed.part.does_part.Goals as goal

pub returns-in-Task : goal.returns-in-Task
returns-in-Task c = λ yes values.
    let happened = event_of c.args.entry values in
    subst (λ (s : Statement). DoesPart s c.args.part happened) (sym c.in-Task.is)
    (subst (λ (xs : List Assignment). DoesTask xs c.args.part happened) c.deref.ensures.value (c.does_task.ensures yes values))

pub returns-in-Set : goal.returns-in-Set
returns-in-Set c = λ yes values.
    let happened = event_of c.args.entry values in
    subst (λ (s : Statement). DoesPart s c.args.part happened) (sym c.in-Set.is)
    (subst (λ (xs : List Setting). DoesSet xs c.args.part happened) c.deref-in-Set.ensures.value (c.does_set.ensures yes values))

pub returns-in-Reset : goal.returns-in-Reset
returns-in-Reset c = λ yes values.
    let happened = event_of c.args.entry values in
    subst (λ (s : Statement). DoesPart s c.args.part happened) (sym c.in-Reset.is)
    (subst (λ (xs : List TimerUse). DoesReset xs c.args.part happened) c.deref-in-Reset.ensures.value (c.does_reset.ensures yes values))

pub returns-in-Output : goal.returns-in-Output
returns-in-Output c = λ yes values.
    subst (λ (s : Statement). DoesPart s c.args.part (event_of c.args.entry values)) (sym c.in-Output.is)
    (c.does_output.ensures yes values)

pub returns-in-Create : goal.returns-in-Create
returns-in-Create c = λ yes values.
    subst (λ (s : Statement). DoesPart s c.args.part (event_of c.args.entry values)) (sym c.in-Create.is)
    (c.does_create.ensures yes values)
