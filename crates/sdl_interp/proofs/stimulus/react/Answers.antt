use Rattle.std.proofs.Common.{sym, subst, List}
use Rattle.std.specs.List.{AllZip}
use Rattle.std.proofs.lemmas.Result.{IfErr-weaker, IfOk-weaker}
use Rattle.port_model.specs.declared.taken.Taken.TheVariants.{Nothing}
use Rattle.sdl_interp.proofs.Bodies.{is_inside}
use Rattle.sdl_interp.proofs.Reacting.{table_continues}
use Rattle.sdl_interp.specs.Stimulus.{ContinuesWith, ContinuesWrong, Reacts, ReactsWrong}
use Rattle.sdl_interp.specs.Running.{seen}
use Rattle.sdl_system.specs.Behaviour.{MeansContinuous}
use Rattle.sdl_system.specs.declared.state.Continuous.{Continuous}
use Rattle.sdl_interp.proofs.stimulus.react.Goals as goal

pub returns-in-Consumed-clause-ok : goal.returns-in-Consumed-clause-ok
returns-in-Consumed-clause-ok g c = rw c.in-Consumed.is c.consume.ensures.ok

pub returns-in-Consumed-clause-err : goal.returns-in-Consumed-clause-err
returns-in-Consumed-clause-err g c = rw c.in-Consumed.is c.consume.ensures.err

pub discard-requires-clause-inside : goal.discard-requires-clause-inside
discard-requires-clause-inside g c =
    is_inside c.args.core.now.process.now c.args.state c.args.table.now c.requires.table

pub returns-in-Discarded-clause-ok : goal.returns-in-Discarded-clause-ok
returns-in-Discarded-clause-ok g c = rw c.in-Discarded.is c.discard.ensures.ok

pub returns-in-Discarded-clause-err : goal.returns-in-Discarded-clause-err
returns-in-Discarded-clause-err g c = rw c.in-Discarded.is c.discard.ensures.err

pub returns-in-Nothing-clause-ok : goal.returns-in-Nothing-clause-ok
returns-in-Nothing-clause-ok g c =
    let k = seen g.P.Inbox.owning g.P.Inbox.since c.args.core.now in
    let n = seen g.P.Inbox.owning g.P.Inbox.since c.try_continuous.new.core in
    let w = g.W.World.value c.args.world.now in
    let v = g.W.World.value c.try_continuous.new.world in
    let state = c.args.state in
    rw c.in-Nothing.is
    (IfOk-weaker c.try_continuous.result
    (λ to. ContinuesWith k.system k.process state c.deref.result.now k.work w to n.work v)
    (λ to. Reacts k.system k.process state Nothing k.work w to n.work v)
    (λ to continues d is m classes took. continues d is m classes took
    (subst (λ (list : List Continuous).
    AllZip (MeansContinuous k.process is.behaves.means.entries) list took.selecting.state.continuous)
    (sym c.deref.ensures.value)
    (table_continues k.system k.process d is state m k.work w classes took c.args.table.now c.requires.table)))
    c.try_continuous.ensures.ok)

pub returns-in-Nothing-clause-err : goal.returns-in-Nothing-clause-err
returns-in-Nothing-clause-err g c =
    let k = seen g.P.Inbox.owning g.P.Inbox.since c.args.core.now in
    let n = seen g.P.Inbox.owning g.P.Inbox.since c.try_continuous.new.core in
    let w = g.W.World.value c.args.world.now in
    let v = g.W.World.value c.try_continuous.new.world in
    let state = c.args.state in
    rw c.in-Nothing.is
    (IfErr-weaker c.try_continuous.result
    (λ why. ContinuesWrong k.system k.process state c.deref.result.now k.work w n.work v why)
    (λ why. ReactsWrong k.system k.process state Nothing k.work w n.work v why)
    (λ why continues d is m classes took. continues d is m classes took
    (subst (λ (list : List Continuous).
    AllZip (MeansContinuous k.process is.behaves.means.entries) list took.selecting.state.continuous)
    (sym c.deref.ensures.value)
    (table_continues k.system k.process d is state m k.work w classes took c.args.table.now c.requires.table)))
    c.try_continuous.ensures.err)
