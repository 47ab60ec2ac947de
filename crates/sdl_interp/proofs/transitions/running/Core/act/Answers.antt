use Rattle.std.proofs.Common.{◌≡◌, ◌∙◌, ap, map, sym, List, [], Some}
use Rattle.std.proofs.lemmas.Result.{IfErr-weaker, on_ok_weaker}
use Rattle.std.specs.Option.{option_map}
use Rattle.run_semantics.proofs.Goes.{wrong_here}
use Rattle.run_semantics.specs.ControlPoint.{Amid}
use Rattle.run_semantics.specs.World.{WorldValue}
use Rattle.sdl_interp.proofs.Results.{if_err_three}
use Rattle.sdl_interp.proofs.Staying.{amid_here}
use Rattle.sdl_interp.proofs.Visits.{effects_as, effects_listed, effects_none, fails_to_act, output_done, reset_done, set_done, task_done}
use Rattle.sdl_interp.specs.Running.{seen}
use Rattle.sdl_interp.specs.Walk.{FailsToAct}
use Rattle.sdl_interp.specs.Work.{DoesWrong, FailsAt, IsOf, amid}
use Rattle.sdl_system.specs.Body as body
use Rattle.sdl_system.specs.Table.{action_of, assigning, sending, setting, timing, whither_of}
use Rattle.sdl_system.specs.Term.{term_of}
use Rattle.sdl_system.specs.declared.statement.Assignment.{Assignment}
use Rattle.sdl_system.specs.declared.statement.Setting as set
use Rattle.sdl_system.specs.declared.statement.TimerUse.{TimerUse}
use Rattle.sdl_interp.proofs.transitions.running.Core.act.Goals as goal

pub returns-in-Task-clause-ok : goal.returns-in-Task-clause-ok
returns-in-Task-clause-ok g c =
    let k = seen g.P.Inbox.owning g.P.Inbox.since c.args.self.now in
    let n = seen g.P.Inbox.owning g.P.Inbox.since c.assign_all.new.self in
    let w = g.W.World.value c.args.world.now in
    let xs = c.deref.result.now in
    let is = ap action_of c.in-Task.is
    ∙ ap (λ (ys : List Assignment). Some (body.task (map assigning ys))) (sym c.deref.ensures.value) in
    on_ok_weaker c.assign_all.result (λ does.
    effects_listed k.system k.process c.args.statement.now (body.task (map assigning xs)) (body.task []) k.work n.work
    w w is (λ d origin rest. task_done d origin rest n.work w) (does w)) c.assign_all.ensures.ok

pub returns-in-Task-clause-err : goal.returns-in-Task-clause-err
returns-in-Task-clause-err g c =
    let k = seen g.P.Inbox.owning g.P.Inbox.since c.args.self.now in
    let n = seen g.P.Inbox.owning g.P.Inbox.since c.assign_all.new.self in
    let s = c.args.statement.now in
    let w = g.W.World.value c.args.world.now in
    let all = body.task (map assigning c.deref.result.now) in
    let is = ap action_of c.in-Task.is
    ∙ ap (λ (ys : List Assignment). Some (body.task (map assigning ys))) (sym c.deref.ensures.value) in
    IfErr-weaker c.assign_all.result
    (λ why. (u : WorldValue) → DoesWrong (IsOf k.system k.process) (amid all) k.work u n.work u why)
    (λ why. FailsToAct k.system k.process (action_of s) k.work w n.work w why)
    (λ why wrong. fails_to_act k.system k.process s all k.work n.work w w why is (wrong w))
    c.assign_all.ensures.err

pub returns-in-Output-clause-ok : goal.returns-in-Output-clause-ok
returns-in-Output-clause-ok g c =
    let k = seen g.P.Inbox.owning g.P.Inbox.since c.args.self.now in
    let n = seen g.P.Inbox.owning g.P.Inbox.since c.send_all.new.self in
    let w = g.W.World.value c.args.world.now in
    let v = g.W.World.value c.send_all.new.world in
    let sends = c.in-Output.output in
    let to = option_map whither_of sends.to in
    let all = body.output (map sending sends.signals.items) to in
    on_ok_weaker c.send_all.result (λ does.
    effects_listed k.system k.process c.args.statement.now all (body.output [] to) k.work n.work w v
    (ap action_of c.in-Output.is) (λ d origin rest. output_done d origin rest n.work v to) does) c.send_all.ensures.ok

pub returns-in-Output-clause-err : goal.returns-in-Output-clause-err
returns-in-Output-clause-err g c =
    let k = seen g.P.Inbox.owning g.P.Inbox.since c.args.self.now in
    let n = seen g.P.Inbox.owning g.P.Inbox.since c.send_all.new.self in
    let s = c.args.statement.now in
    let w = g.W.World.value c.args.world.now in
    let v = g.W.World.value c.send_all.new.world in
    let sends = c.in-Output.output in
    let all = body.output (map sending sends.signals.items) (option_map whither_of sends.to) in
    IfErr-weaker c.send_all.result
    (λ why. DoesWrong (IsOf k.system k.process) (amid all) k.work w n.work v why)
    (λ why. FailsToAct k.system k.process (action_of s) k.work w n.work v why)
    (λ why wrong. fails_to_act k.system k.process s all k.work n.work w v why (ap action_of c.in-Output.is) wrong)
    c.send_all.ensures.err

pub returns-in-Set-clause-ok : goal.returns-in-Set-clause-ok
returns-in-Set-clause-ok g c =
    let k = seen g.P.Inbox.owning g.P.Inbox.since c.args.self.now in
    let n = seen g.P.Inbox.owning g.P.Inbox.since c.set_all.new.self in
    let w = g.W.World.value c.args.world.now in
    let v = g.W.World.value c.set_all.new.world in
    let xs = c.deref-in-Set.result.now in
    let is = ap action_of c.in-Set.is
    ∙ ap (λ (ys : List set.Setting). Some (body.set (map setting ys))) (sym c.deref-in-Set.ensures.value) in
    on_ok_weaker c.set_all.result (λ does.
    effects_listed k.system k.process c.args.statement.now (body.set (map setting xs)) (body.set []) k.work n.work w v
    is (λ d origin rest. set_done d origin rest n.work v) does) c.set_all.ensures.ok

pub returns-in-Set-clause-err : goal.returns-in-Set-clause-err
returns-in-Set-clause-err g c =
    let k = seen g.P.Inbox.owning g.P.Inbox.since c.args.self.now in
    let n = seen g.P.Inbox.owning g.P.Inbox.since c.set_all.new.self in
    let s = c.args.statement.now in
    let w = g.W.World.value c.args.world.now in
    let v = g.W.World.value c.set_all.new.world in
    let all = body.set (map setting c.deref-in-Set.result.now) in
    let is = ap action_of c.in-Set.is
    ∙ ap (λ (ys : List set.Setting). Some (body.set (map setting ys))) (sym c.deref-in-Set.ensures.value) in
    IfErr-weaker c.set_all.result
    (λ why. DoesWrong (IsOf k.system k.process) (amid all) k.work w n.work v why)
    (λ why. FailsToAct k.system k.process (action_of s) k.work w n.work v why)
    (λ why wrong. fails_to_act k.system k.process s all k.work n.work w v why is wrong) c.set_all.ensures.err

pub returns-in-Reset-clause-ok : goal.returns-in-Reset-clause-ok
returns-in-Reset-clause-ok g c =
    let k = seen g.P.Inbox.owning g.P.Inbox.since c.args.self.now in
    let n = seen g.P.Inbox.owning g.P.Inbox.since c.reset_all.new.self in
    let w = g.W.World.value c.args.world.now in
    let xs = c.deref-in-Reset.result.now in
    let is = ap action_of c.in-Reset.is
    ∙ ap (λ (ys : List TimerUse). Some (body.reset (map timing ys))) (sym c.deref-in-Reset.ensures.value) in
    on_ok_weaker c.reset_all.result (λ does.
    effects_listed k.system k.process c.args.statement.now (body.reset (map timing xs)) (body.reset []) k.work n.work
    w w is (λ d origin rest. reset_done d origin rest n.work w) (does w)) c.reset_all.ensures.ok

pub returns-in-Reset-clause-err : goal.returns-in-Reset-clause-err
returns-in-Reset-clause-err g c =
    let k = seen g.P.Inbox.owning g.P.Inbox.since c.args.self.now in
    let n = seen g.P.Inbox.owning g.P.Inbox.since c.reset_all.new.self in
    let s = c.args.statement.now in
    let w = g.W.World.value c.args.world.now in
    let all = body.reset (map timing c.deref-in-Reset.result.now) in
    let is = ap action_of c.in-Reset.is
    ∙ ap (λ (ys : List TimerUse). Some (body.reset (map timing ys))) (sym c.deref-in-Reset.ensures.value) in
    IfErr-weaker c.reset_all.result
    (λ why. (u : WorldValue) → DoesWrong (IsOf k.system k.process) (amid all) k.work u n.work u why)
    (λ why. FailsToAct k.system k.process (action_of s) k.work w n.work w why)
    (λ why wrong. fails_to_act k.system k.process s all k.work n.work w w why is (wrong w)) c.reset_all.ensures.err

pub returns-in-Create-clause-ok : goal.returns-in-Create-clause-ok
returns-in-Create-clause-ok g c =
    let k = seen g.P.Inbox.owning g.P.Inbox.since c.args.self.now in
    let n = seen g.P.Inbox.owning g.P.Inbox.since c.create.new.self in
    let creation = c.in-Create.creation in
    on_ok_weaker c.create.result (λ does. effects_as k.system k.process c.args.statement.now
    (body.create creation.process (map term_of creation.values.items)) k.work n.work (g.W.World.value c.args.world.now)
    (g.W.World.value c.create.new.world) (ap action_of c.in-Create.is) does) c.create.ensures.ok

pub returns-in-Create-clause-err : goal.returns-in-Create-clause-err
returns-in-Create-clause-err g c =
    let k = seen g.P.Inbox.owning g.P.Inbox.since c.args.self.now in
    let n = seen g.P.Inbox.owning g.P.Inbox.since c.create.new.self in
    let s = c.args.statement.now in
    let w = g.W.World.value c.args.world.now in
    let v = g.W.World.value c.create.new.world in
    let creation = c.in-Create.creation in
    let all = body.create creation.process (map term_of creation.values.items) in
    if_err_three c.create.result (λ why. FailsAt (IsOf k.system k.process) (amid all) k.work why)
    (λ _. n.work ≡ k.work) (λ _. v ≡ w)
    (λ why. FailsToAct k.system k.process (action_of s) k.work w n.work v why)
    (λ why fails same quiet. fails_to_act k.system k.process s all k.work n.work w v why (ap action_of c.in-Create.is)
    (λ d of origin rest. wrong_here d (Amid origin all rest) k.work n.work w v why (fails d of origin rest) same quiet))
    c.create.ensures.err c.create.ensures.same c.create.ensures.quiet

pub returns-in_default-clause-amid : goal.returns-in_default-clause-amid
returns-in_default-clause-amid g c =
    amid_here (seen g.P.Inbox.owning g.P.Inbox.since c.args.self.now) c.requires

pub returns-in_default-clause-ok : goal.returns-in_default-clause-ok
returns-in_default-clause-ok g c =
    let k = seen g.P.Inbox.owning g.P.Inbox.since c.args.self.now in
    effects_none k.system k.process c.args.statement.now k.work (g.W.World.value c.args.world.now)
    c.in_default.not-Task c.in_default.not-Output c.in_default.not-Set c.in_default.not-Reset c.in_default.not-Create
