use Rattle.std.proofs.Common.{◌≡◌, true, refl, sym, ap, ◌∙◌}
use Rattle.std.specs.Ordering.{is_eq}
use Rattle.std.specs.Bool.{Decides}
use Rattle.std.proofs.lemmas.Bool.Decides.{Decides-and, Decides-eqb, Decides-like}
use Rattle.port_model.specs.declared.values.timer_key.TimerKey.{TimerKey}
use Rattle.port_model.specs.Same.{same_values-Decides}
use Rattle.port_model.specs.Timers.{same_key, key_order}
use Rattle.port_model.specs.contracts.values.timer_key.TimerKeyOrd.TheImpl.Laws.{matches_eq-law}

-- keys compare by what they say
pub same_key-Decides : (a b : TimerKey) → Decides (same_key a b) (a ≡ b)
same_key-Decides a b =
    Decides-like (same_key a b)
    (λ parts. ap (λ n. record { name = record { 0 = n }; values = a.values }) parts.0 ∙ ap (λ v. record { name = b.name; values = v }) parts.1)
    (λ same. (ap (λ k. k.name.0) same, ap (λ k. k.values) same))
    (Decides-and _ _ (Decides-eqb a.name.0 b.name.0) (same_values-Decides a.values b.values))

pub same_itself : (key : TimerKey) → same_key key key ≡ true
same_itself key = (same_key-Decides key key).1 refl

-- and their order tells them apart
pub key_order-Decides : (a b : TimerKey) → Decides (is_eq (key_order a b)) (a ≡ b)
key_order-Decides a b =
    let same : same_key a b ≡ is_eq (key_order a b) = matches_eq-law a b in
    (λ e. (same_key-Decides a b).0 (same ∙ e), λ e. sym same ∙ (same_key-Decides a b).1 e)
