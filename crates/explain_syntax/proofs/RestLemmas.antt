-- A text is a rest of itself, a rest of a rest is one, and so is a text in which bytes are filled or a line is blank.
use Rattle.std.proofs.Common.{if◌then◌else◌, ◌≡◌, ◌≢◌, ◌⊎◌, ◌<◌, ◌≤◌, ◌+◌, ◌-◌, ◌==◌, ◌&&◌, ℕ, List, Bool, true, false, inl, inr, ◌∙◌, refl, sym, ap, arith, length, get_or, nat_le, nat_lt, not, ⊎_elim}
use Rattle.std.proofs.lemmas.Bool.{and_right, both_ways, cases_Bool, cond-false, cond-true, cond_both, eq-eqb, not_from_true}
use Rattle.explain_syntax.specs.Line.{IsWithoutLine, byte_in_line, line_at}
use Rattle.explain_syntax.specs.Rest.{IsFilled, IsRestOf, StaysOr, byte_at, filler, is_filler}

pub whole : (text : List ℕ) → IsRestOf text text
whole text = record { as_long = refl; each = λ k less. inl refl }

stays_on : (one two three : ℕ) → StaysOr one two → StaysOr two three → StaysOr one three
stays_on one two three (inl same) (inl again) = inl (again ∙ same)
stays_on one two three (inl same) (inr (other, filled)) = inr ((λ e. other (same ∙ e)), filled)
stays_on one two three (inr (other, filled)) (inl again) = inr (other, ap is_filler again ∙ filled)
stays_on one two three (inr (other, filled)) (inr (other', filled')) = inr (other, filled')

pub on : (text mid rest : List ℕ) → IsRestOf text mid → IsRestOf mid rest → IsRestOf text rest
on text mid rest first second = record {
  as_long = second.as_long ∙ first.as_long;
  each = λ k less. stays_on (get_or text k 0) (get_or mid k 0) (get_or rest k 0) (first.each k less)
      (second.each k (let same = first.as_long in omega (arith, same, less)));
}

-- a byte stays, or another takes its place that isn't there for a line end
by_test : (test : Bool) (old filled new : ℕ) → (old ≡ 10 → test ≡ false) → is_filler filled ≡ true
    → new ≡ (if test then filled else old) → StaysOr old new
by_test test old filled new ends fills is = ⊎_elim
    (λ (yes : test ≡ true). inr (
      (λ e. both_ways test (ends e) yes),
      ap is_filler (is ∙ cond-true test filled old yes) ∙ fills,
    ))
    (λ (no : test ≡ false). inl (is ∙ cond-false test filled old no))
    (cases_Bool test)

fills : (stops : Bool) (n : ℕ) → is_filler (filler stops n) ≡ true
fills stops n =
    let P : ℕ → Type 0 = λ byte. is_filler byte ≡ true in
    cond_both (stops && (n == 0)) 115 _ P (λ e. refl) (λ e0.
    cond_both (stops && (n == 1)) 116 _ P (λ e. refl) (λ e1.
    cond_both (stops && (n == 2)) 111 _ P (λ e. refl) (λ e2.
    cond_both (stops && (n == 3)) 112 32 P (λ e. refl) (λ e3. refl))))

pub filled_rest : (from to : ℕ) (stops : Bool) (text rest : List ℕ) → IsFilled from to stops text rest
    → IsRestOf text rest
filled_rest from to stops text rest filled = record {
  as_long = filled.as_long;
  each = λ k less.
      let old = get_or text k 0 in
      by_test ((nat_le from k && nat_lt k to) && not (old == 10)) old (filler stops (k - from)) (get_or rest k 0)
      (λ e. and_right (nat_le from k && nat_lt k to) (not (old == 10)) (not_from_true (old == 10) (eq-eqb old 10 e)))
      (fills stops (k - from)) (filled.each k less);
}

pub line_rest : (number : ℕ) (text rest : List ℕ) → IsWithoutLine number text rest → IsRestOf text rest
line_rest number text rest without = record {
  as_long = without.as_long;
  each = λ k less.
      let old = get_or text k 0 in
      by_test ((line_at text k == number) && not (old == 10)) old 32 (get_or rest k 0)
      (λ e. and_right (line_at text k == number) (not (old == 10)) (not_from_true (old == 10) (eq-eqb old 10 e)))
      refl (without.each k less);
}
