use Rattle.std.proofs.Common.{◌≡◌, length, refl, sym, subst, ◌∙◌}
use Rattle.std.proofs.lemmas.Bool.{false≢true}
use Rattle.std.proofs.lemmas.Option.{slice_get_read}
use Rattle.build_routes.specs.Each.{ForSome}
use Rattle.build_routes.proofs.EachLemmas.{none_all, none_more}
use Rattle.build_routes.proofs.named.is_named.Goals as goal

pub returns-then-is_among : goal.returns-then-is_among
returns-then-is_among c = (
  λ e. (
    c.loop-connect.connect-index,
    c.connect-item.result,
    slice_get_read c.args.connects.now (length c.args.connects.now) c.loop-connect.connect-index c.connect-item.result refl c.loop-connect-test.true c.connect-item.is,
    subst (λ x. ForSome x (λ j path. path.0 ≡ c.args.number)) c.deref.ensures.value (c.is_among.ensures.0 c.if-is_among.true),
  ),
  λ some. refl,
)

pub loop-connect-preserved : goal.loop-connect-preserved
loop-connect-preserved c =
    none_more c.args.connects.now c.loop-connect.connect-index c.connect-item.result (λ k connect. ForSome connect.inner.items (λ j path. path.0 ≡ c.args.number))
    (slice_get_read c.args.connects.now (length c.args.connects.now) c.loop-connect.connect-index c.connect-item.result refl c.loop-connect-test.true c.connect-item.is)
    c.loop-connect.invariant
    (λ some. false≢true (sym c.if-is_among.false ∙ c.is_among.ensures.1 (subst (λ x. ForSome x (λ j path. path.0 ≡ c.args.number)) (sym c.deref.ensures.value) some)))

pub returns : goal.returns
returns c = (
  λ e. absurd (false≢true e),
  λ some. absurd (none_all c.args.connects.now c.loop-connect.connect-index (λ k connect. ForSome connect.inner.items (λ j path. path.0 ≡ c.args.number))
      c.loop-connect-test.false c.loop-connect.invariant some),
)
