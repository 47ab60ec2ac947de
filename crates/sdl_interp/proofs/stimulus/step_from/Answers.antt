use Rattle.std.proofs.Common.{sym, subst, Some}
use Rattle.std.proofs.lemmas.Result.{IfErr-weaker, IfOk-weaker}
use Rattle.sdl_interp.proofs.Instances.{answered_stepped, responds_steps}
use Rattle.sdl_interp.specs.Stimulus.{IsAnswered, IsStepped, Responds, RespondsWrong, StepsFrom, StepsWrong}
use Rattle.sdl_interp.specs.Running.{seen}
use Rattle.sdl_interp.specs.declared.transitions.machine.Position.{Position}
use Rattle.sdl_interp.specs.declared.transitions.machine.Position.TheVariants.{In}
use Rattle.sdl_interp.proofs.stimulus.step_from.Goals as goal

pub returns-in-BeforeStart-clause-ok : goal.returns-in-BeforeStart-clause-ok
returns-in-BeforeStart-clause-ok g c =
    let k = seen g.P.Inbox.owning g.P.Inbox.since c.args.core.now in
    let n = seen g.P.Inbox.owning g.P.Inbox.since c.start.new.core in
    subst (λ (position : Position). StepsFrom k.system k.process position k.work (g.W.World.value c.args.world.now)
    (Some c.start.result) n.work (g.W.World.value c.start.new.world)) (sym c.in-BeforeStart.is) c.start.ensures.leads

pub returns-in-In-clause-stepped : goal.returns-in-In-clause-stepped
returns-in-In-clause-stepped g c =
    let n = seen g.P.Inbox.owning g.P.Inbox.since c.respond.new.core in
    let state = c.in-In.state in
    rw c.in-In.is (IfOk-weaker c.respond.result (λ to. IsAnswered to n) (λ to. IsStepped (In state) to n)
    (λ to. answered_stepped state to n) c.respond.ensures.answered)

pub returns-in-In-clause-ok : goal.returns-in-In-clause-ok
returns-in-In-clause-ok g c =
    let k = seen g.P.Inbox.owning g.P.Inbox.since c.args.core.now in
    let n = seen g.P.Inbox.owning g.P.Inbox.since c.respond.new.core in
    let w = g.W.World.value c.args.world.now in
    let v = g.W.World.value c.respond.new.world in
    let state = c.in-In.state in
    rw c.in-In.is (IfOk-weaker c.respond.result (λ to. Responds k.system k.process state k.work w to n.work v)
    (λ to. StepsFrom k.system k.process (In state) k.work w to n.work v)
    (λ to. responds_steps k.system k.process state k.work n.work w v to) c.respond.ensures.ok)

pub returns-in-In-clause-err : goal.returns-in-In-clause-err
returns-in-In-clause-err g c =
    let k = seen g.P.Inbox.owning g.P.Inbox.since c.args.core.now in
    let n = seen g.P.Inbox.owning g.P.Inbox.since c.respond.new.core in
    let w = g.W.World.value c.args.world.now in
    let v = g.W.World.value c.respond.new.world in
    let state = c.in-In.state in
    rw c.in-In.is (IfErr-weaker c.respond.result
    (λ why. RespondsWrong k.system k.process state k.work w n.work v why)
    (λ why. StepsWrong k.system k.process (In state) k.work w n.work v why)
    (λ why responds. responds) c.respond.ensures.err)
