use Rattle.std.proofs.Common.{◌∙◌, get_or, refl, sym}
use Rattle.std.proofs.lemmas.Bool.{false≢true}
use Rattle.std.proofs.lemmas.Option.{slice_get-get_or}
use Rattle.build_routes.specs.SignalLists.{HasSignal}
use Rattle.build_routes.proofs.EachLemmas.{none_all, none_more}
use Rattle.build_routes.specs.declared.network.list.ListId.{ListId}
use Rattle.build_routes.proofs.valid.is_in_some.Goals as goal

pub returns : goal.returns
returns c = (
  λ e. absurd (false≢true e),
  λ some. absurd (none_all c.args.lists.now c.loop-list.list-index (λ n list. HasSignal c.args.sets.now list c.args.signal)
      c.loop-list-test.false c.loop-list.invariant some),
)

pub returns-then-has : goal.returns-then-has
returns-then-has c =
    let none : ListId = record { 0 = 0 } in
    let lists = c.args.lists.now in
    let i = c.loop-list.list-index in (
      λ e. (i, get_or lists i none, slice_get-get_or lists i none c.loop-list-test.true, c.has.ensures.0 c.if-has.true),
      λ some. refl,
    )

pub loop-list-preserved : goal.loop-list-preserved
loop-list-preserved c =
    let none : ListId = record { 0 = 0 } in
    let lists = c.args.lists.now in
    let i = c.loop-list.list-index in
    none_more lists i (get_or lists i none) (λ n list. HasSignal c.args.sets.now list c.args.signal)
    (slice_get-get_or lists i none c.loop-list-test.true) c.loop-list.invariant
    (λ has. false≢true (sym c.if-has.false ∙ c.has.ensures.1 has))
