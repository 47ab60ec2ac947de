use Rattle.std.proofs.Common.{◌≡◌, ◌&&◌, ◌∙◌, ap, eqb, length, refl, sym, true}
use Rattle.std.proofs.lemmas.Bool.{and_parts, eqb-true}
use Rattle.std.proofs.lemmas.Option.{slice_get_read}
use Rattle.build_routes.specs.declared.receiver.Receiver.{Receiver}
use Rattle.build_routes.proofs.ReceiverLemmas.{same_process}
use Rattle.build_routes.proofs.SharedLemmas.{pointwise_same}
use Rattle.build_routes.proofs.known.is_known.Goals as goal

receiver_same : (x y : Receiver) → (eqb x.process.0 y.process.0 && eqb x.signals y.signals) ≡ true → x ≡ y
receiver_same x y is =
    let both = and_parts (eqb x.process.0 y.process.0) (eqb x.signals y.signals) is in
    let p : x.process ≡ y.process = same_process x.process y.process (eqb-true x.process.0 y.process.0 both.0) in
    let s : x.signals ≡ y.signals = eqb-true x.signals y.signals both.1 in
    λ i. record { process = p i; signals = s i }

pub returns-then-word-known : goal.returns-then-word-known
returns-then-word-known c = λ e. (
  c.index-known-word.result,
  slice_get_read c.args.known.now (length c.args.known.now) c.args.word c.index-known-word.result refl c.if-word-known.true c.index-known-word.is,
  ap (λ x. x.receivers.items) c.index-known-word.is ∙ sym c.as_slice.ensures.value
      ∙ pointwise_same (λ x y. eqb x.process.0 y.process.0 && eqb x.signals y.signals) receiver_same c.as_slice.result.now c.args.receivers.now (sym c.eq.ensures ∙ e),
)
