use Rattle.std.proofs.Common.{subst, None, Some}
use Rattle.std.proofs.lemmas.Result.{err_from_is_err_and}
use Rattle.run_record.specs.Knowledge.{KnowledgeValue, environment_of}
use Rattle.run_semantics.specs.Selection.{tried}
use Rattle.sdl_interp.specs.Running.{seen}
use Rattle.sdl_interp.proofs.Reacting.{answers_failure, found_here, waits_untried}
use Rattle.sdl_interp.specs.Selected.{IsTried}
use Rattle.sdl_interp.proofs.stimulus.try_continuous.Goals as goal

pub returns-in-None-clause-ok : goal.returns-in-None-clause-ok
returns-in-None-clause-ok g c = λ d is m classes took zipped.
    let k = seen g.P.Inbox.owning g.P.Inbox.since c.args.core.now in
    let entries = is.behaves.means.entries in
    let meant = took.selecting.state.continuous in
    let found = rw c.in-None.is at c.in_ok-found.ensures.ok in
    waits_untried k.system k.process d is c.args.state m k.work (g.W.World.value c.args.world.now) classes took
    (subst (λ (known : KnowledgeValue). IsTried entries None (tried (environment_of known) meant)) c.knowledge.ensures
    (found entries meant zipped))

pub returns-in-Some-clause-ok : goal.returns-in-Some-clause-ok
returns-in-Some-clause-ok g c = λ d is m classes took zipped.
    let k = seen g.P.Inbox.owning g.P.Inbox.since c.args.core.now in
    let entries = is.behaves.means.entries in
    let meant = took.selecting.state.continuous in
    let found = rw c.in-Some.is at c.in_ok-found.ensures.ok in
    c.provide.ensures.provides d is m classes took
    (found_here k.system k.process d is c.args.state m k.work (g.W.World.value c.args.world.now) classes took
    c.in-Some.signal
    (subst (λ (known : KnowledgeValue). IsTried entries (Some c.in-Some.signal) (tried (environment_of known) meant))
    c.knowledge.ensures (found entries meant zipped)))

pub returns-in_err-found-clause-err : goal.returns-in_err-found-clause-err
returns-in_err-found-clause-err g c =
    let q = err_from_is_err_and c.from_residual.result c.from_residual.ensures.1 in
    let k = seen g.P.Inbox.owning g.P.Inbox.since c.args.core.now in
    let cause = rw c.knowledge.ensures at c.in_err-found.ensures.err in
    rw (q.1, q.2) (λ d is m classes took zipped.
    answers_failure k.system k.process d is c.args.state m k.work (g.W.World.value c.args.world.now) classes took _
    (cause is.behaves.means.entries took.selecting.state.continuous zipped))
