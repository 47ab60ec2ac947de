use Rattle.std.proofs.Common.{◌≡◌, get_or, refl}
use Rattle.std.proofs.lemmas.Bool.{false≢true}
use Rattle.std.proofs.lemmas.Option.{slice_get-get_or}
use Rattle.build_routes.proofs.EachLemmas.{none_all, none_more}
use Rattle.build_routes.specs.declared.network.joined.PathId.{PathId}
use Rattle.build_routes.proofs.named.is_among.Goals as goal

pub returns-then-id-number : goal.returns-then-id-number
returns-then-id-number c =
    let none : PathId = record { 0 = 0 } in
    let ids = c.args.ids.now in
    let i = c.loop-id.id-index in (
      λ e. (i, get_or ids i none, slice_get-get_or ids i none c.loop-id-test.true, c.if-id-number.true),
      λ some. refl,
    )

pub loop-id-preserved : goal.loop-id-preserved
loop-id-preserved c =
    let none : PathId = record { 0 = 0 } in
    let ids = c.args.ids.now in
    let i = c.loop-id.id-index in
    none_more ids i (get_or ids i none) (λ j path. path.0 ≡ c.args.number)
    (slice_get-get_or ids i none c.loop-id-test.true) c.loop-id.invariant c.if-id-number.false

pub returns : goal.returns
returns c = (
  λ e. absurd (false≢true e),
  λ some. absurd (none_all c.args.ids.now c.loop-id.id-index (λ j path. path.0 ≡ c.args.number) c.loop-id-test.false
      c.loop-id.invariant some),
)
