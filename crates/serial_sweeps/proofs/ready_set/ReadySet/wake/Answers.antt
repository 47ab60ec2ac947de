use Rattle.std.proofs.Common.{◌≡◌, ◌⊎◌, ◌↔◌, ◌∙◌, ◌+◌, ◌/◌, ◌<◌, ℕ, List, refl, ap, subst, arith, rules, get_or, length, set}
use Rattle.std.specs.Int.{bit_at}
use Rattle.std.specs.List.{Contains}
use Rattle.std.proofs.lemmas.List.{get_or_read}
use Rattle.serial_sweeps.specs.Marks.{numbers_in}
use Rattle.serial_sweeps.proofs.Marks.{grown_same, waked}
use Rattle.serial_sweeps.proofs.ready_set.ReadySet.wake.Goals as goal
use Rattle.serial_sweeps.proofs.ready_set.ReadySet.wake.Goals.{then-len-place+in_ok-resize, else-len-place}

pub returns-clause-ok : goal.returns-clause-ok
returns-clause-ok c =
    let old = c.self.inside.words.items in
    let words = c.if-len-place.self-inside.words.items in
    let number = c.args.number in
    let place = number / 64 in
    let long = c.self.inside.words.ok.0 in
    let within : place < length words = search rules in
    let grown : (j : ℕ) → get_or words j 0 ≡ get_or old j 0 = λ j. elim c.if-len-place.branch [
      | then-len-place+in_ok-resize w ↦
          rw w.self-inside-is (grown_same old w.resize.new.self.items (place + 1) (search rules) (search rules)
          (λ k d below inside. w.in_ok-resize.ensures.by_index.0 k d below (omega (arith, inside, long)))
          (λ k d behind below. w.in_ok-resize.ensures.by_index.1 k d refl (omega (arith, behind, long)) below) j)
      | else-len-place w ↦ rw w.self-inside-is
    ] in
    let read = get_or_read words place c.index.result.now within c.index.ensures 0 in
    let after = set words place c.with_bit.result in
    subst (λ (ns : List ℕ). (n : ℕ) → Contains (numbers_in after) n ↔ ((n ≡ number) ⊎ Contains ns n)) c.self.view_is
    (waked old words number c.with_bit.result grown within c.with_bit.ensures.set
    (λ i other. c.with_bit.ensures.others i other ∙ ap (λ w. bit_at w i) read))
