use Rattle.std.proofs.Common.{refl}
use Rattle.build_routes.specs.Passing.{ComesBy}
use Rattle.build_routes.proofs.PassLemmas.{raises, stays}
use Rattle.build_routes.proofs.network.graph.pass.Goals as goal

pub returns-in_ok-push : goal.returns-in_ok-push
returns-in_ok-push c =
    raises c.args.reached.now c.args.waiting.now.items c.push.new.self.items c.args.step.to c.let_through.result c.joined-new.result
    (ComesBy c.args.from c.args.column.now c.args.step) c.requires
    (λ n k comes. (comes.0, (c.let_through.ensures k).1 (comes.1, comes.2)))
    (λ k has. (refl, ((c.let_through.ensures k).0 has).0, ((c.let_through.ensures k).0 has).1))
    c.joined-new.ensures.value c.if-new-old.true c.joined-new.ensures.fits c.in_ok-push.ensures.items

pub returns-else-new-old : goal.returns-else-new-old
returns-else-new-old c =
    stays c.args.reached.now c.args.waiting.now.items c.args.step.to c.let_through.result
    (ComesBy c.args.from c.args.column.now c.args.step)
    (λ n k comes. (comes.0, (c.let_through.ensures k).1 (comes.1, comes.2)))
    c.joined-new.result c.joined-new.ensures.value c.if-new-old.false
