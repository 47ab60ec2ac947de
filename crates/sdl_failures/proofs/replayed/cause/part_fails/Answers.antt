-- By the kind of the statement.
use Rattle.std.proofs.Common.{List, subst, sym}
use Rattle.run_record.specs.Knowledge.{environment_of}
use Rattle.sdl_system.specs.declared.statement.Assignment.{Assignment}
use Rattle.sdl_system.specs.declared.statement.Setting.{Setting}
use Rattle.sdl_system.specs.declared.statement.Statement.{Statement}
use Rattle.sdl_system.specs.declared.statement.TimerUse.{TimerUse}
use Rattle.sdl_failures.specs.Fails.{AssignmentFails, PartFails, SettingFails, TimerFails}
use Rattle.sdl_failures.specs.Part.{HasPart}
use Rattle.sdl_failures.proofs.replayed.cause.part_fails.Goals as goal

pub returns-in-Task : goal.returns-in-Task
returns-in-Task c = λ yes.
    let k = c.args.knowledge.now in
    let here = environment_of k in
    let process = c.args.process.now in
    subst (λ (s : Statement). PartFails k.system process here s c.args.part c.args.why) (sym c.in-Task.is)
    (subst (λ (xs : List Assignment). HasPart xs c.args.part (λ one. AssignmentFails process here one c.args.why))
    c.deref.ensures.value (c.task_fails.ensures yes))

pub returns-in-Output : goal.returns-in-Output
returns-in-Output c = λ yes.
    let k = c.args.knowledge.now in
    subst (λ (s : Statement). PartFails k.system c.args.process.now (environment_of k) s c.args.part c.args.why)
    (sym c.in-Output.is) (c.output_fails.ensures yes)

pub returns-in-Set : goal.returns-in-Set
returns-in-Set c = λ yes.
    let k = c.args.knowledge.now in
    let here = environment_of k in
    subst (λ (s : Statement). PartFails k.system c.args.process.now here s c.args.part c.args.why) (sym c.in-Set.is)
    (subst (λ (xs : List Setting). HasPart xs c.args.part (λ one. SettingFails here one c.args.why))
    c.deref-in-Set.ensures.value (c.set_fails.ensures yes))

pub returns-in-Reset : goal.returns-in-Reset
returns-in-Reset c = λ yes.
    let k = c.args.knowledge.now in
    let here = environment_of k in
    subst (λ (s : Statement). PartFails k.system c.args.process.now here s c.args.part c.args.why) (sym c.in-Reset.is)
    (subst (λ (xs : List TimerUse). HasPart xs c.args.part (λ one. TimerFails here one c.args.why))
    c.deref-in-Reset.ensures.value (c.reset_fails.ensures yes))

pub returns-in-Create : goal.returns-in-Create
returns-in-Create c = λ yes.
    let k = c.args.knowledge.now in
    subst (λ (s : Statement). PartFails k.system c.args.process.now (environment_of k) s c.args.part c.args.why)
    (sym c.in-Create.is) (c.create_fails.ensures yes)

pub returns-in-Decision : goal.returns-in-Decision
returns-in-Decision c = λ yes.
    let k = c.args.knowledge.now in
    subst (λ (s : Statement). PartFails k.system c.args.process.now (environment_of k) s c.args.part c.args.why)
    (sym c.in-Decision.is) (c.question_fails.ensures yes)
