use Rattle.std.proofs.Common.{◌∙◌, ap}
use Rattle.std.proofs.lemmas.Result.{err_from_is_err_and}
use Rattle.run_record.specs.declared.evaluation.store.Store.{Store}
use Rattle.sdl_interp.proofs.Heads.{plain_else}
use Rattle.sdl_interp.proofs.Staying.{going_counted, going_stored, same_counted, same_counted_on, same_stored, value_counted, work_same, work_stored}
use Rattle.sdl_interp.proofs.Visits.{visits_acted, visits_acted_wrong, visits_decision, visits_uncounted, visits_undecided}
use Rattle.sdl_interp.specs.Machine.{value_of}
use Rattle.sdl_interp.specs.Running.{seen}
use Rattle.sdl_interp.specs.declared.transitions.machine.Machine.{Machine}
use Rattle.sdl_interp.proofs.transitions.running.Core.visit.Goals as goal

-- a decision

pub returns-in_err-way-in-Decision-clause-same : goal.returns-in_err-way-in-Decision-clause-same
returns-in_err-way-in-Decision-clause-same g c =
    same_stored g.P.Inbox.owning g.P.Inbox.since c.args.self.now c.choose.new.self _ c.choose.ensures.rest

pub returns-in_err-way-in-Decision-clause-going : goal.returns-in_err-way-in-Decision-clause-going
returns-in_err-way-in-Decision-clause-going g c =
    going_stored g.P.Inbox.owning g.P.Inbox.since c.args.self.now c.choose.new.self _ c.choose.ensures.rest
    c.requires.going

pub returns-in_err-way-in-Decision-clause-err : goal.returns-in_err-way-in-Decision-clause-err
returns-in_err-way-in-Decision-clause-err g c =
    let q = err_from_is_err_and c.from_residual.result c.from_residual.ensures.1 in
    let k = seen g.P.Inbox.owning g.P.Inbox.since c.args.self.now in
    let n = seen g.P.Inbox.owning g.P.Inbox.since c.choose.new.self in
    rw (q.1, q.2) (λ origin. visits_undecided k.system k.process c.args.node.now origin k.work
    (g.W.World.value c.args.world.now) c.in-Decision.decision n.work _ c.in-Decision.is
    c.in_err-way-in-Decision.ensures.err
    (work_same g.P.Inbox.owning g.P.Inbox.since c.args.self.now c.choose.new.self
    c.in_err-way-in-Decision.ensures.same))

pub returns-in_ok-way-in-Decision-clause-same : goal.returns-in_ok-way-in-Decision-clause-same
returns-in_ok-way-in-Decision-clause-same g c =
    same_stored g.P.Inbox.owning g.P.Inbox.since c.args.self.now c.choose.new.self _ c.choose.ensures.rest

pub returns-in_ok-way-in-Decision-clause-going : goal.returns-in_ok-way-in-Decision-clause-going
returns-in_ok-way-in-Decision-clause-going g c =
    going_stored g.P.Inbox.owning g.P.Inbox.since c.args.self.now c.choose.new.self _ c.choose.ensures.rest
    c.requires.going

pub returns-in_ok-way-in-Decision-clause-counts : goal.returns-in_ok-way-in-Decision-clause-counts
returns-in_ok-way-in-Decision-clause-counts g c =
    let counts = c.in_ok-way-in-Decision.ensures.counts in
    (counts.0, ap (λ (s : Store). s.done) counts.1)

pub returns-in_ok-way-in-Decision-clause-ok : goal.returns-in_ok-way-in-Decision-clause-ok
returns-in_ok-way-in-Decision-clause-ok g c =
    let k = seen g.P.Inbox.owning g.P.Inbox.since c.args.self.now in
    let n = seen g.P.Inbox.owning g.P.Inbox.since c.choose.new.self in
    λ origin. visits_decision k.system k.process c.args.node.now origin k.work (g.W.World.value c.args.world.now)
    n.work c.in_ok-way-in-Decision.ensures.counts
    (work_stored g.P.Inbox.owning g.P.Inbox.since c.args.self.now c.choose.new.self _ c.choose.ensures.rest)
    c.in-Decision.decision c.in_ok-way-in-Decision.way c.in-Decision.is c.in_ok-way-in-Decision.ensures.ok

-- any other statement

pub returns-in_err-count-in_default-clause-same : goal.returns-in_err-count-in_default-clause-same
returns-in_err-count-in_default-clause-same g c =
    same_counted g.P.Inbox.owning g.P.Inbox.since c.args.self.now c.count.new.machine c.count.ensures.trace

pub returns-in_err-count-in_default-clause-going : goal.returns-in_err-count-in_default-clause-going
returns-in_err-count-in_default-clause-going g c =
    going_counted g.P.Inbox.owning g.P.Inbox.since c.args.self.now c.count.new.machine c.count.ensures.trace
    c.requires.going

pub returns-in_err-count-in_default-clause-err : goal.returns-in_err-count-in_default-clause-err
returns-in_err-count-in_default-clause-err g c =
    let q = err_from_is_err_and c.from_residual-in_err-count-in_default.result
    c.from_residual-in_err-count-in_default.ensures.1 in
    let k = seen g.P.Inbox.owning g.P.Inbox.since c.args.self.now in
    let o = k.work.owner in
    rw (q.1, q.2) (λ origin. visits_uncounted k.system k.process c.args.node.now origin k.work
    (g.W.World.value c.args.world.now) (value_of c.count.new.machine o) _ c.requires.passed
    c.in_err-count-in_default.ensures.err (ap (λ (x : Machine). value_of x o) c.in_err-count-in_default.ensures.same))

pub act-requires : goal.act-requires
act-requires g c =
    going_counted g.P.Inbox.owning g.P.Inbox.since c.args.self.now c.count.new.machine c.count.ensures.trace
    c.requires.going

pub returns-in_err-act-in_default-clause-same : goal.returns-in_err-act-in_default-clause-same
returns-in_err-act-in_default-clause-same g c =
    same_counted_on g.P.Inbox.owning g.P.Inbox.since c.args.self.now c.count.new.machine c.count.ensures.trace
    (seen g.P.Inbox.owning g.P.Inbox.since c.act.new.self) c.act.ensures.amid.same

pub returns-in_err-act-in_default-clause-err : goal.returns-in_err-act-in_default-clause-err
returns-in_err-act-in_default-clause-err g c =
    let q = err_from_is_err_and c.from_residual-in_err-act-in_default.result
    c.from_residual-in_err-act-in_default.ensures.1 in
    let k = seen g.P.Inbox.owning g.P.Inbox.since c.args.self.now in
    let n = seen g.P.Inbox.owning g.P.Inbox.since c.act.new.self in
    let o = k.work.owner in
    let mid = c.count.new.machine in
    rw (q.1, q.2) (λ origin. visits_acted_wrong k.system k.process c.args.node.now origin k.work
    (g.W.World.value c.args.world.now) (value_of mid o) c.in_ok-count-in_default.ensures.counts
    (value_counted c.args.self.now.machine mid o c.count.ensures.trace) n.work (g.W.World.value c.act.new.world) _
    (plain_else c.args.node.now.statement c.requires.passed c.in_default.not-Decision)
    c.in_err-act-in_default.ensures.err)

pub returns-in_ok-act-in_default-clause-same : goal.returns-in_ok-act-in_default-clause-same
returns-in_ok-act-in_default-clause-same g c =
    same_counted_on g.P.Inbox.owning g.P.Inbox.since c.args.self.now c.count.new.machine c.count.ensures.trace
    (seen g.P.Inbox.owning g.P.Inbox.since c.act.new.self) c.act.ensures.amid.same

pub returns-in_ok-act-in_default-clause-counts : goal.returns-in_ok-act-in_default-clause-counts
returns-in_ok-act-in_default-clause-counts g c =
    let counts = c.in_ok-count-in_default.ensures.counts in
    (counts.0, c.act.ensures.amid.done ∙ ap (λ (s : Store). s.done) counts.1)

pub returns-in_ok-act-in_default-clause-ok : goal.returns-in_ok-act-in_default-clause-ok
returns-in_ok-act-in_default-clause-ok g c =
    let k = seen g.P.Inbox.owning g.P.Inbox.since c.args.self.now in
    let n = seen g.P.Inbox.owning g.P.Inbox.since c.act.new.self in
    let o = k.work.owner in
    let mid = c.count.new.machine in
    λ origin. visits_acted k.system k.process c.args.node.now origin k.work (g.W.World.value c.args.world.now)
    (value_of mid o) c.in_ok-count-in_default.ensures.counts
    (value_counted c.args.self.now.machine mid o c.count.ensures.trace) n.work (g.W.World.value c.act.new.world)
    (plain_else c.args.node.now.statement c.requires.passed c.in_default.not-Decision) c.in_ok-act-in_default.ensures.ok
