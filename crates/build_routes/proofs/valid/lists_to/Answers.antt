use Rattle.std.proofs.Common.{◌∙◌, ap, get_or, sym}
use Rattle.std.proofs.lemmas.Bool.{false≢true}
use Rattle.std.proofs.lemmas.Option.{slice_get-get_or}
use Rattle.build_routes.specs.declared.network.joined.ChannelPath.{ChannelPath}
use Rattle.build_routes.specs.declared.network.joined.End.TheVariants as at
use Rattle.build_routes.specs.declared.network.joined.Scope.TheVariants as its
use Rattle.build_routes.proofs.ValidLemmas.{heard_all, lists_more, not_heard, pushed_heard}
use Rattle.build_routes.proofs.valid.lists_to.Goals as goal
use Rattle.build_routes.proofs.valid.lists_to.Goals.{then-is_heard+in_ok-push-3, else-is_heard}

pub loop-path-preserved : goal.loop-path-preserved
loop-path-preserved c = λ list.
    let none : ChannelPath = record { scope = its.System; from = at.Env; to = at.Env; signals = record { 0 = 0 } } in
    let path : ChannelPath = get_or c.args.paths.now c.loop-path.path-index none in
    let before = c.loop-path.lists.items in
    lists_more c.args.id c.args.process c.args.paths.now c.loop-path.path-index path before c.if-is_heard.lists.items list
    (slice_get-get_or c.args.paths.now c.loop-path.path-index none c.loop-path-test.true) (c.loop-path.invariant list)
    (elim c.if-is_heard.branch [
      | then-is_heard+in_ok-push-3 w ↦
          pushed_heard c.args.id c.args.process path before c.if-is_heard.lists.items list (c.is_heard.ensures.0 w.if-is_heard.true)
          (ap (λ x. x.items) w.lists-is ∙ w.in_ok-push-3.ensures.items)
      | else-is_heard w ↦
          not_heard c.args.id c.args.process path before c.if-is_heard.lists.items list
          (λ heard. false≢true (sym w.if-is_heard.false ∙ c.is_heard.ensures.1 heard)) (ap (λ x. x.items) w.lists-is)
    ])

pub returns : goal.returns
returns c = λ list. heard_all c.args.id c.args.process c.args.paths.now c.loop-path.path-index c.loop-path.lists.items list c.loop-path-test.false (c.loop-path.invariant list)
