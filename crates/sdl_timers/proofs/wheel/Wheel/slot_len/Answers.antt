use Rattle.std.proofs.Common.{◌≡◌, ◌<◌, ◌∙◌, ℕ, [], ap, length, get_or, arith}
use Rattle.std.proofs.lemmas.List.{get_or_default}
use Rattle.sdl_timers.proofs.Counting.{slot_length}
use Rattle.sdl_timers.proofs.wheel.Wheel.slot_len.Goals as goal

pub returns : goal.returns
returns c =
    let slots = c.self.inside.slots in
    let long : length slots ≡ 256 = c.self.invariant.long in
    let small : c.args.slot < 256 = c.ranges.slot.fits in
    let same = c.from.ensures in
    let below : c.from.result < length slots = omega arith in
    rw (← c.self.view_is) (c.len.ensures ∙ ap length (get_or_default slots c.from.result c.index-self-from.result [] below) ∙ ap (λ (n : ℕ). length (get_or slots n [])) c.from.ensures
    ∙ slot_length slots c.self.inside.tournament c.args.slot c.self.invariant small)
