use Rattle.std.proofs.Common.{◌≡◌, ◌+◌, ◌<◌, arith, sym, Some}
use Rattle.std.proofs.lemmas.Result.{IfOk-weaker, err_from_is_err_and}
use Rattle.run_record.specs.declared.failure.Failure.TheVariants.{Memory, TooLong}
use Rattle.sdl_interp.proofs.Heads.{passed_else}
use Rattle.sdl_interp.proofs.Results.{if_err_both}
use Rattle.sdl_interp.proofs.Staying.{same_here, same_on}
use Rattle.sdl_interp.proofs.Visits.{ends_in_no_state, ends_in_none_again, ends_in_same, ends_in_state, ends_stopped, ends_unstopped}
use Rattle.sdl_interp.proofs.Walks.{walk_begins, walked_off, walked_on, walked_over, walked_past, walked_wrong}
use Rattle.sdl_interp.specs.Running.{seen}
use Rattle.sdl_interp.specs.Walk.{EntersNone, IsEntered, IsStopped, Walks, WalksWrong}
use Rattle.sdl_interp.proofs.transitions.running.Core.walk.Goals as goal

pub loop-at-init : goal.loop-at-init
loop-at-init g c =
    let k = seen g.P.Inbox.owning g.P.Inbox.since c.args.self.now in
    record {
      going = c.requires;
      same = same_here k;
      walked = walk_begins k c.args.begin c.args.origin (g.W.World.value c.args.world.now);
    }

pub returns-in_default-node-clause-err : goal.returns-in_default-node-clause-err
returns-in_default-node-clause-err g c =
    let k = seen g.P.Inbox.owning g.P.Inbox.since c.args.self.now in
    let m = seen g.P.Inbox.owning g.P.Inbox.since c.loop-at.self in
    let begin = c.args.begin in
    let origin = c.args.origin in
    let w = g.W.World.value c.args.world.now in
    let v = g.W.World.value c.loop-at.world in
    let number = c.in-Some.number in
    walked_past k begin origin w c.loop-at.at number m m v v TooLong c.in-Some.is c.loop-at.invariant.same
    (sym c.in_default-node.ensures) c.loop-at.invariant.walked

-- a state is entered

pub returns-in-NextState-clause-same : goal.returns-in-NextState-clause-same
returns-in-NextState-clause-same g c =
    same_on (seen g.P.Inbox.owning g.P.Inbox.since c.args.self.now)
    (seen g.P.Inbox.owning g.P.Inbox.since c.loop-at.self)
    (seen g.P.Inbox.owning g.P.Inbox.since c.enter.new.self) c.loop-at.invariant.same c.enter.ensures.same

pub returns-in-NextState-clause-ok : goal.returns-in-NextState-clause-ok
returns-in-NextState-clause-ok g c =
    let k = seen g.P.Inbox.owning g.P.Inbox.since c.args.self.now in
    let m = seen g.P.Inbox.owning g.P.Inbox.since c.loop-at.self in
    let n = seen g.P.Inbox.owning g.P.Inbox.since c.enter.new.self in
    let begin = c.args.begin in
    let origin = c.args.origin in
    let w = g.W.World.value c.args.world.now in
    let v = g.W.World.value c.loop-at.world in
    let number = c.in-Some.number in
    let node = c.in-Some-node.node.now in
    let state = c.in-NextState.state in
    IfOk-weaker c.enter.result (λ position. IsEntered (Some state) m position n)
    (λ position. Walks k.system k.process (Some begin) origin k.work w position n.work v)
    (λ position enters. walked_over k begin origin w c.loop-at.at number node m n v v c.in-Some.is
    c.loop-at.invariant.same (sym c.in-Some-node.ensures) c.loop-at.invariant.walked position
    (ends_in_state m node origin v state position n c.in-NextState.is
    enters)) c.enter.ensures.ok

pub returns-in-NextState-clause-err : goal.returns-in-NextState-clause-err
returns-in-NextState-clause-err g c =
    let k = seen g.P.Inbox.owning g.P.Inbox.since c.args.self.now in
    let m = seen g.P.Inbox.owning g.P.Inbox.since c.loop-at.self in
    let n = seen g.P.Inbox.owning g.P.Inbox.since c.enter.new.self in
    let begin = c.args.begin in
    let origin = c.args.origin in
    let w = g.W.World.value c.args.world.now in
    let v = g.W.World.value c.loop-at.world in
    let number = c.in-Some.number in
    let node = c.in-Some-node.node.now in
    let state = c.in-NextState.state in
    if_err_both c.enter.result (EntersNone (Some state) m.process) (λ _. n.work ≡ m.work)
    (WalksWrong k.system k.process (Some begin) origin k.work w n.work v)
    (λ why none still. walked_wrong k begin origin w c.loop-at.at number node m n v v c.in-Some.is
    c.loop-at.invariant.same (sym c.in-Some-node.ensures) c.loop-at.invariant.walked why
    (ends_in_no_state m node origin v state n why c.in-NextState.is none still))
    c.enter.ensures.err c.enter.ensures.kept

pub returns-in-SameState-clause-same : goal.returns-in-SameState-clause-same
returns-in-SameState-clause-same g c =
    same_on (seen g.P.Inbox.owning g.P.Inbox.since c.args.self.now)
    (seen g.P.Inbox.owning g.P.Inbox.since c.loop-at.self)
    (seen g.P.Inbox.owning g.P.Inbox.since c.enter-in-SameState.new.self) c.loop-at.invariant.same
    c.enter-in-SameState.ensures.same

pub returns-in-SameState-clause-ok : goal.returns-in-SameState-clause-ok
returns-in-SameState-clause-ok g c =
    let k = seen g.P.Inbox.owning g.P.Inbox.since c.args.self.now in
    let m = seen g.P.Inbox.owning g.P.Inbox.since c.loop-at.self in
    let n = seen g.P.Inbox.owning g.P.Inbox.since c.enter-in-SameState.new.self in
    let begin = c.args.begin in
    let origin = c.args.origin in
    let w = g.W.World.value c.args.world.now in
    let v = g.W.World.value c.loop-at.world in
    let number = c.in-Some.number in
    let node = c.in-Some-node.node.now in
    IfOk-weaker c.enter-in-SameState.result (λ position. IsEntered origin m position n)
    (λ position. Walks k.system k.process (Some begin) origin k.work w position n.work v)
    (λ position enters. walked_over k begin origin w c.loop-at.at number node m n v v c.in-Some.is
    c.loop-at.invariant.same (sym c.in-Some-node.ensures) c.loop-at.invariant.walked position
    (ends_in_same m node origin v position n c.in-SameState.is enters))
    c.enter-in-SameState.ensures.ok

pub returns-in-SameState-clause-err : goal.returns-in-SameState-clause-err
returns-in-SameState-clause-err g c =
    let k = seen g.P.Inbox.owning g.P.Inbox.since c.args.self.now in
    let m = seen g.P.Inbox.owning g.P.Inbox.since c.loop-at.self in
    let n = seen g.P.Inbox.owning g.P.Inbox.since c.enter-in-SameState.new.self in
    let begin = c.args.begin in
    let origin = c.args.origin in
    let w = g.W.World.value c.args.world.now in
    let v = g.W.World.value c.loop-at.world in
    let number = c.in-Some.number in
    let node = c.in-Some-node.node.now in
    if_err_both c.enter-in-SameState.result (EntersNone origin m.process) (λ _. n.work ≡ m.work)
    (WalksWrong k.system k.process (Some begin) origin k.work w n.work v)
    (λ why none still. walked_wrong k begin origin w c.loop-at.at number node m n v v c.in-Some.is
    c.loop-at.invariant.same (sym c.in-Some-node.ensures) c.loop-at.invariant.walked why
    (ends_in_none_again m node origin v n why c.in-SameState.is none still))
    c.enter-in-SameState.ensures.err c.enter-in-SameState.ensures.kept

-- the instance stops

pub returns-in-Stop-clause-same : goal.returns-in-Stop-clause-same
returns-in-Stop-clause-same g c =
    same_on (seen g.P.Inbox.owning g.P.Inbox.since c.args.self.now)
    (seen g.P.Inbox.owning g.P.Inbox.since c.loop-at.self)
    (seen g.P.Inbox.owning g.P.Inbox.since c.stop.new.self) c.loop-at.invariant.same c.stop.ensures.same

pub returns-in-Stop-clause-ok : goal.returns-in-Stop-clause-ok
returns-in-Stop-clause-ok g c =
    let k = seen g.P.Inbox.owning g.P.Inbox.since c.args.self.now in
    let m = seen g.P.Inbox.owning g.P.Inbox.since c.loop-at.self in
    let n = seen g.P.Inbox.owning g.P.Inbox.since c.stop.new.self in
    let begin = c.args.begin in
    let origin = c.args.origin in
    let w = g.W.World.value c.args.world.now in
    let v = g.W.World.value c.loop-at.world in
    let number = c.in-Some.number in
    let node = c.in-Some-node.node.now in
    IfOk-weaker c.stop.result (λ position. IsStopped m position n)
    (λ position. Walks k.system k.process (Some begin) origin k.work w position n.work v)
    (λ position stops. walked_over k begin origin w c.loop-at.at number node m n v v c.in-Some.is
    c.loop-at.invariant.same (sym c.in-Some-node.ensures) c.loop-at.invariant.walked position
    (ends_stopped m node origin v position n c.in-Stop.is
    c.loop-at.invariant.going.alive stops)) c.stop.ensures.ok

pub returns-in-Stop-clause-err : goal.returns-in-Stop-clause-err
returns-in-Stop-clause-err g c =
    let k = seen g.P.Inbox.owning g.P.Inbox.since c.args.self.now in
    let m = seen g.P.Inbox.owning g.P.Inbox.since c.loop-at.self in
    let n = seen g.P.Inbox.owning g.P.Inbox.since c.stop.new.self in
    let begin = c.args.begin in
    let origin = c.args.origin in
    let w = g.W.World.value c.args.world.now in
    let v = g.W.World.value c.loop-at.world in
    let number = c.in-Some.number in
    let node = c.in-Some-node.node.now in
    if_err_both c.stop.result (λ why. why ≡ Memory) (λ _. n.work ≡ m.work)
    (WalksWrong k.system k.process (Some begin) origin k.work w n.work v)
    (λ why memory still. walked_wrong k begin origin w c.loop-at.at number node m n v v c.in-Some.is
    c.loop-at.invariant.same (sym c.in-Some-node.ensures) c.loop-at.invariant.walked why
    (ends_unstopped m node origin v n why c.in-Stop.is memory still))
    c.stop.ensures.err c.stop.ensures.kept

-- the flow goes on, or a statement fails

pub visit-requires-clause-passed : goal.visit-requires-clause-passed
visit-requires-clause-passed g c =
    passed_else c.in-Some-node.node.now.statement c.in_default-statement.not-NextState
    c.in_default-statement.not-SameState
    c.in_default-statement.not-Stop

pub returns-in_err-at-in_default-statement-clause-same : goal.returns-in_err-at-in_default-statement-clause-same
returns-in_err-at-in_default-statement-clause-same g c =
    same_on (seen g.P.Inbox.owning g.P.Inbox.since c.args.self.now)
    (seen g.P.Inbox.owning g.P.Inbox.since c.loop-at.self)
    (seen g.P.Inbox.owning g.P.Inbox.since c.visit.new.self) c.loop-at.invariant.same c.visit.ensures.same

pub returns-in_err-at-in_default-statement-clause-err : goal.returns-in_err-at-in_default-statement-clause-err
returns-in_err-at-in_default-statement-clause-err g c =
    let q = err_from_is_err_and c.from_residual.result c.from_residual.ensures.1 in
    let k = seen g.P.Inbox.owning g.P.Inbox.since c.args.self.now in
    let m = seen g.P.Inbox.owning g.P.Inbox.since c.loop-at.self in
    let n = seen g.P.Inbox.owning g.P.Inbox.since c.visit.new.self in
    let begin = c.args.begin in
    let origin = c.args.origin in
    let w = g.W.World.value c.args.world.now in
    let v = g.W.World.value c.loop-at.world in
    let number = c.in-Some.number in
    let node = c.in-Some-node.node.now in
    rw (q.1, q.2) (walked_wrong k begin origin w c.loop-at.at number node m n v
    (g.W.World.value c.visit.new.world) c.in-Some.is
    c.loop-at.invariant.same (sym c.in-Some-node.ensures) c.loop-at.invariant.walked _
    (c.in_err-at-in_default-statement.ensures.err origin))

pub loop-at-preserved : goal.loop-at-preserved
loop-at-preserved g c =
    let k = seen g.P.Inbox.owning g.P.Inbox.since c.args.self.now in
    let m = seen g.P.Inbox.owning g.P.Inbox.since c.loop-at.self in
    let n = seen g.P.Inbox.owning g.P.Inbox.since c.visit.new.self in
    let begin = c.args.begin in
    let origin = c.args.origin in
    let w = g.W.World.value c.args.world.now in
    let v = g.W.World.value c.loop-at.world in
    let number = c.in-Some.number in
    let node = c.in-Some-node.node.now in
    record {
      going = c.visit.ensures.going;
      same = same_on k m n c.loop-at.invariant.same c.visit.ensures.same;
      walked = walked_on k begin origin w c.loop-at.at number node m n v
          (g.W.World.value c.visit.new.world) c.in-Some.is
          c.loop-at.invariant.same (sym c.in-Some-node.ensures) c.loop-at.invariant.walked
          c.in_ok-at-in_default-statement.at (c.in_ok-at-in_default-statement.ensures.ok origin);
    }

pub loop-at-smaller : goal.loop-at-smaller
loop-at-smaller g c =
    let below : c.loop-at.self.machine.store.done < 10000 = c.in_ok-at-in_default-statement.ensures.counts.0 in
    let more : c.visit.new.self.machine.store.done ≡ c.loop-at.self.machine.store.done + 1 =
    c.in_ok-at-in_default-statement.ensures.counts.1 in
    omega arith

pub returns-clause-err : goal.returns-clause-err
returns-clause-err g c =
    let k = seen g.P.Inbox.owning g.P.Inbox.since c.args.self.now in
    let m = seen g.P.Inbox.owning g.P.Inbox.since c.loop-at.self in
    let v = g.W.World.value c.loop-at.world in
    walked_off k c.args.begin c.args.origin (g.W.World.value c.args.world.now) c.loop-at.at m m v v TooLong
    c.in_default.is c.loop-at.invariant.walked
