use Rattle.std.proofs.Common.{subst}
use Rattle.std.proofs.lemmas.Result.{err_from_is_err_and}
use Rattle.run_record.specs.Knowledge.{KnowledgeValue}
use Rattle.sdl_interp.proofs.First.{fails_unselected}
use Rattle.sdl_interp.specs.Selected.{SelectsBy, SelectsNone}
use Rattle.sdl_interp.specs.Running.{seen}
use Rattle.sdl_interp.proofs.stimulus.select_and_take.Goals as goal

pub take_by-requires-clause-selects : goal.take_by-requires-clause-selects
take_by-requires-clause-selects g c =
    subst (λ (known : KnowledgeValue). SelectsBy c.args.core.now.process.now c.args.table.now known c.in_ok-own.own)
    c.knowledge.ensures c.in_ok-own.ensures.ok

pub returns-in_err-own-clause-err : goal.returns-in_err-own-clause-err
returns-in_err-own-clause-err g c =
    let q = err_from_is_err_and c.from_residual.result c.from_residual.ensures.1 in
    let k = seen g.P.Inbox.owning g.P.Inbox.since c.args.core.now in
    let why = c.in_err-own.field-0.0 in
    rw (q.1, q.2) (λ d is. fails_unselected d c.args.state k.work (g.W.World.value c.args.world.now) why
    (subst (λ (known : KnowledgeValue). SelectsNone k.process c.args.table.now known why) c.knowledge.ensures
    c.in_err-own.ensures.err d is c.args.state c.requires.table) c.requires.going.alive)
