use Rattle.std.proofs.Common.{◌≢◌, ◌↔◌, ◌∙◌, ◌/◌, ◌<◌, ◌≤◌, ℕ, List, ap, sym, subst, rules, length, refl, set}
use Rattle.std.specs.Int.{bit_at}
use Rattle.std.specs.List.{Contains}
use Rattle.std.proofs.lemmas.List.{get_or_read}
use Rattle.serial_sweeps.specs.Marks.{numbers_in}
use Rattle.serial_sweeps.proofs.Marks.{none_past, rested, shorter}
use Rattle.serial_sweeps.proofs.ready_set.ReadySet.rest.Goals as goal

pub returns-then-place-len-clause-left : goal.returns-then-place-len-clause-left
returns-then-place-len-clause-left c =
    let words = c.self.inside.words.items in
    let number = c.args.number in
    let within : number / 64 < length words = search rules in
    let read = get_or_read words (number / 64) c.index.result.now within c.index.ensures 0 in
    let after = set words (number / 64) c.without_bit.result in
    subst (λ (ns : List ℕ). (n : ℕ) → Contains (numbers_in after) n ↔ (Contains ns n × (n ≢ number))) c.self.view_is
    (rested words number c.without_bit.result within c.without_bit.ensures.clear
    (λ i below other. c.without_bit.ensures.others i below other ∙ ap (λ w. bit_at w i) read))

pub returns-then-place-len-clause-fewer : goal.returns-then-place-len-clause-fewer
returns-then-place-len-clause-fewer c =
    let words = c.self.inside.words.items in
    let number = c.args.number in
    let within : number / 64 < length words = search rules in
    let read = get_or_read words (number / 64) c.index.result.now within c.index.ensures 0 in
    let after = set words (number / 64) c.without_bit.result in
    subst (λ (ns : List ℕ). Contains ns number → length (numbers_in after) < length ns) c.self.view_is
    (shorter words number c.without_bit.result within c.without_bit.ensures.clear
    (λ i below other. c.without_bit.ensures.others i below other ∙ ap (λ w. bit_at w i) read))

pub returns-else-place-len-clause-left : goal.returns-else-place-len-clause-left
returns-else-place-len-clause-left c =
    let words = c.self.inside.words.items in
    let number = c.args.number in
    let past : length words ≤ number / 64 = search rules in
    subst (λ (ns : List ℕ). (n : ℕ) → Contains ns n ↔ (Contains ns n × (n ≢ number))) c.self.view_is
    (none_past words number past)

pub returns-else-place-len-clause-fewer : goal.returns-else-place-len-clause-fewer
returns-else-place-len-clause-fewer c = λ there.
    let words = c.self.inside.words.items in
    let past : length words ≤ c.args.number / 64 = search rules in
    let is = subst (λ (ns : List ℕ). Contains ns c.args.number) (sym c.self.view_is) there in
    absurd (((none_past words c.args.number past c.args.number).0 is).1 refl)
