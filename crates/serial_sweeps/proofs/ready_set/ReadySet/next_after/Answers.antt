use Rattle.std.proofs.Common.{rules, ◌≡◌, ◌+◌, ◌*◌, ◌/◌, ◌^◌, ◌<◌, ◌≤◌, ℕ, List, Option, None, Some, IfNone, IsTrue, inl, inr, ◌∙◌, ap, sym, subst, arith, length}
use Rattle.std.specs.Int.{bit_at}
use Rattle.std.specs.List.{Contains}
use Rattle.std.proofs.lemmas.Bool.{cases_lt}
use Rattle.std.proofs.lemmas.List.{get_or_read}
use Rattle.std.proofs.lemmas.Option.{IfSome_then}
use Rattle.serial_sweeps.specs.Marks.{is_marked, numbers_in}
use Rattle.serial_sweeps.proofs.Marks.{behind_word, below_end, found_from, has, least_from}
use Rattle.serial_sweeps.proofs.ready_set.ReadySet.next_after.Goals as goal

if_none : {X : Type 0} (o : Option X) (P : Type 0) → P → IfNone o P
if_none None P p = p
if_none (Some x) P p = tt

IfNone_then : {X : Type 0} (o : Option X) (P Q : Type 0) → IfNone o P → (P → Q) → IfNone o Q
IfNone_then None P Q is then = then is
IfNone_then (Some x) P Q is then = tt

pub returns-in_err-from-clause-none : goal.returns-in_err-from-clause-none
returns-in_err-from-clause-none c =
    let words = c.self.inside.words.items in
    let bound = c.self.invariant in
    let full : 2 ^ 32 ≤ c.args.number + 1 = search rules in
    if_none c.from_residual.result ((n : ℕ) → Contains c.args.self.now n → n ≤ c.args.number)
    (λ n there.
    let lt = below_end words n (subst (λ (ns : List ℕ). Contains ns n) (sym c.self.view_is) there) in
    omega (arith, lt, bound, full))

pub returns-then-place-len-clause-none : goal.returns-then-place-len-clause-none
returns-then-place-len-clause-none c = λ n there.
    let words = c.self.inside.words.items in
    let from : c.in_ok-from.from ≡ c.args.number + 1 = search rules in
    let past : length words ≤ c.in_ok-from.from / 64 = search rules in
    let lt = below_end words n (subst (λ (ns : List ℕ). Contains ns n) (sym c.self.view_is) there) in
    omega (arith, lt, from, past)

pub returns-then-word-ne0-clause-next : goal.returns-then-word-ne0-clause-next
returns-then-word-ne0-clause-next c =
    let words = c.self.inside.words.items in
    let from = c.in_ok-from.from in
    let up : from ≡ c.args.number + 1 = search rules in
    let within : from / 64 < length words = search rules in
    let read = get_or_read words (from / 64) c.index.result.now within c.index.ensures 0 in
    let found = found_from words from c.bits_from-word.result c.lowest.result c.bits_from-word.ensures.below
    (λ i behind lt. c.bits_from-word.ensures.kept i behind lt ∙ ap (λ w. bit_at w i) read)
    c.lowest.ensures.within c.lowest.ensures.set in (
      subst (λ (ns : List ℕ). Contains ns (from / 64 * 64 + c.lowest.result)) c.self.view_is found.0,
      omega (arith, up, found.1),
    )

pub returns-then-word-ne0-clause-least : goal.returns-then-word-ne0-clause-least
returns-then-word-ne0-clause-least c = λ n there after.
    let words = c.self.inside.words.items in
    let from = c.in_ok-from.from in
    let up : from ≡ c.args.number + 1 = search rules in
    let within : from / 64 < length words = search rules in
    let low : c.lowest.result ≤ 64 = omega (arith, c.lowest.ensures.within) in
    let read = get_or_read words (from / 64) c.index.result.now within c.index.ensures 0 in
    least_from words from c.bits_from-word.result c.lowest.result
    (λ i behind lt. c.bits_from-word.ensures.kept i behind lt ∙ ap (λ w. bit_at w i) read)
    low c.lowest.ensures.least n
    (subst (λ (ns : List ℕ). Contains ns n) (sym c.self.view_is) there) (omega (arith, up, after))

pub returns-clause-next : goal.returns-clause-next
returns-clause-next c =
    let words = c.deref.result.now in
    let up : c.in_ok-from.from ≡ c.args.number + 1 = search rules in
    let seen = ap numbers_in c.deref.ensures.value ∙ c.self.view_is in
    IfSome_then c.first_from.result c.first_from.ensures.next (λ next is. (
      subst (λ (ns : List ℕ). Contains ns next) seen ((has words next).1 is.0),
      omega (arith, up, is.1),
    ))

pub returns-clause-least : goal.returns-clause-least
returns-clause-least c =
    let words = c.self.inside.words.items in
    let from = c.in_ok-from.from in
    let up : from ≡ c.args.number + 1 = search rules in
    let within : from / 64 < length words = search rules in
    let read = get_or_read words (from / 64) c.index.result.now within c.index.ensures 0 in
    let value = c.deref.ensures.value in
    IfSome_then c.first_from.result c.first_from.ensures.least (λ next least n there after.
    let of_words = subst (λ (ns : List ℕ). Contains ns n) (sym c.self.view_is) there in
    least n (subst (λ (ws : List ℕ). IsTrue (is_marked ws n)) (sym value) ((has words n).0 of_words))
    (behind_word words from c.bits_from-word.result
    (λ i behind lt. c.bits_from-word.ensures.kept i behind lt ∙ ap (λ w. bit_at w i) read)
    c.if-word-ne0.false n of_words (omega (arith, up, after))))

pub returns-clause-none : goal.returns-clause-none
returns-clause-none c =
    let words = c.self.inside.words.items in
    let from = c.in_ok-from.from in
    let up : from ≡ c.args.number + 1 = search rules in
    let within : from / 64 < length words = search rules in
    let read = get_or_read words (from / 64) c.index.result.now within c.index.ensures 0 in
    let value = c.deref.ensures.value in
    IfNone_then c.first_from.result ((n : ℕ) → IsTrue (is_marked c.deref.result.now n) → n < 64 * (from / 64 + 1))
    ((n : ℕ) → Contains c.args.self.now n → n ≤ c.args.number) c.first_from.ensures.none (λ none n there.
    let of_words = subst (λ (ns : List ℕ). Contains ns n) (sym c.self.view_is) there in
    let before = none n (subst (λ (ws : List ℕ). IsTrue (is_marked ws n)) (sym value) ((has words n).0 of_words)) in
    elim (cases_lt c.args.number n) [
      | inl after ↦
          let behind = behind_word words from c.bits_from-word.result
          (λ i behind lt. c.bits_from-word.ensures.kept i behind lt ∙ ap (λ w. bit_at w i) read)
          c.if-word-ne0.false n of_words (omega (arith, up, after)) in
          let no : ⊥ = omega (arith, before, behind) in
          absurd no
      | inr upto ↦ upto
    ])
