use Rattle.std.proofs.Common.{◌≡◌, ◌↔◌, true, subst, arith}
use Rattle.build_routes.specs.Each.{ForSome}
use Rattle.build_routes.proofs.NamedLemmas.{flags_all, flags_more}
use Rattle.build_routes.proofs.named.named_flags.Goals as goal

pub loop-number-preserved : goal.loop-number-preserved
loop-number-preserved c = record {
  size = omega (arith, c.in_ok-push.ensures.len, c.loop-number.invariant.size);
  each = flags_more c.args.network.now c.loop-number.flags.items c.push.new.self.items c.loop-number.number c.is_named-is_named.result
      c.loop-number.invariant.size
      (subst (λ m. (c.is_named-is_named.result ≡ true) ↔ ForSome c.args.network.now.connects.items (λ k connect. ForSome connect.inner.items (λ j path. path.0 ≡ m))) c.in_ok-counted.ensures.same
      (subst (λ x. (c.is_named-is_named.result ≡ true) ↔ ForSome x (λ k connect. ForSome connect.inner.items (λ j path. path.0 ≡ c.in_ok-counted.field-0))) c.deref.ensures.value
      c.is_named-is_named.ensures))
      c.loop-number.invariant.each c.in_ok-push.ensures.items;
}

pub returns : goal.returns
returns c = flags_all c.args.network.now c.loop-number.flags.items c.loop-number.number
    (omega (arith, c.loop-number-test.false, c.len-number-end.ensures)) c.loop-number.invariant.each
