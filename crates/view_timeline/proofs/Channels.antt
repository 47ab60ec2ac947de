-- When channels are the same.
use Rattle.std.proofs.Common.{◌≡◌, true, false, refl, sym, ap, ◌∙◌, true≢false}
use Rattle.std.specs.Bool.{Decides}
use Rattle.std.proofs.lemmas.Bool.Decides.{Decides-and, Decides-eqb, Decides-like}
use Rattle.view_timeline.specs.Did.{same_channel}
use Rattle.view_timeline.specs.declared.channel.Channel.{Channel}

pub same_channel-Decides : (a b : Channel) → Decides (same_channel a b) (a ≡ b)
same_channel-Decides a b =
    Decides-like (same_channel a b)
    (λ parts. ap (λ n. record { sender = n; receiver = a.receiver; signal = a.signal }) parts.0
    ∙ ap (λ n. record { sender = b.sender; receiver = n; signal = a.signal }) parts.1.0
    ∙ ap (λ n. record { sender = b.sender; receiver = b.receiver; signal = record { 0 = n } }) parts.1.1)
    (λ same. (ap (λ c. c.sender) same, (ap (λ c. c.receiver) same, ap (λ c. c.signal.0) same)))
    (Decides-and _ _ (Decides-eqb a.sender b.sender)
    (Decides-and _ _ (Decides-eqb a.receiver b.receiver) (Decides-eqb a.signal.0 b.signal.0)))

pub same_itself : (channel : Channel) → same_channel channel channel ≡ true
same_itself channel = (same_channel-Decides channel channel).1 refl

pub same-true : (a b : Channel) → same_channel a b ≡ true → a ≡ b
same-true a b = (same_channel-Decides a b).0

pub same-apart : (a b : Channel) → same_channel a b ≡ false → b ≡ a → ⊥
same-apart a b e same = true≢false (sym ((same_channel-Decides a b).1 (sym same)) ∙ e)
