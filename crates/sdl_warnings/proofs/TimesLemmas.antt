-- How often a name is among words, word by word.
use Rattle.std.proofs.Common.{◌≡◌, ◌<◌, ◌≤◌, ◌+◌, ◌||◌, ◌&&◌, ℕ, Bool, true, false, cond, List, ◌++◌, ap, append_assoc, arith, drop, get_or, length, map, nat_lt, sym, take, take_all, ◌∙◌}
use Rattle.std.proofs.lemmas.Bool.Decides.{nat_tests}
use Rattle.std.proofs.lemmas.List.{drop_more, take_more}
use Rattle.std.proofs.lemmas.List.Sums.{sum_by_push}
use Rattle.parse_expressions.specs.declared.word.PlacedWord.{PlacedWord}
use Rattle.sdl_warnings.specs.Unused.{defined_value, unused, unused_by}
use Rattle.sdl_warnings.specs.Words.{is_name, times}
use Rattle.sdl_warnings.specs.declared.defined.Defined.{Defined}
use Rattle.sdl_warnings.specs.declared.suspicion.Warning.{Warning}

times_more : (text : List ℕ) (words : List PlacedWord) (index : ℕ) (d : PlacedWord) → index < length words
    → times text (take (index + 1) words)
    ≡ times text (take index words) + cond (is_name text (get_or words index d)) 1 0
times_more text words index d within =
    ap (times text) (take_more words index d within)
    ∙ sum_by_push (λ (one : PlacedWord). cond (is_name text one) 1 0) (take index words) (get_or words index d)

once_more : (n : ℕ) (own : Bool) → (own || nat_lt 0 n) ≡ nat_lt 0 (n + cond own 1 0)
once_more n true = grind (arith, nat_tests)
once_more n false = grind (arith, nat_tests)

again_more : (n : ℕ) (own : Bool) → ((own && nat_lt 0 n) || nat_lt 1 n) ≡ nat_lt 1 (n + cond own 1 0)
again_more n true = grind (arith, nat_tests)
again_more n false = grind (arith, nat_tests)

module _ (text : List ℕ) (words : List PlacedWord) (index : ℕ) (d : PlacedWord) (within : index < length words) where
  abbrev before : ℕ
  before = times text (take index words)

  abbrev own : Bool
  own = is_name text (get_or words index d)

  pub once_on : (had had' : Bool) → had ≡ nat_lt 0 before → had' ≡ (own || had)
      → had' ≡ nat_lt 0 (times text (take (index + 1) words))
  once_on had had' was now =
      now ∙ ap (λ b. own || b) was ∙ once_more before own ∙ sym (ap (nat_lt 0) (times_more text words index d within))

  pub again_on : (once had had' : Bool) → once ≡ nat_lt 0 before → had ≡ nat_lt 1 before → had' ≡ ((own && once) || had)
      → had' ≡ nat_lt 1 (times text (take (index + 1) words))
  again_on once had had' first was now =
      now ∙ ap (λ b. (own && b) || had) first ∙ ap (λ b. (own && nat_lt 0 before) || b) was
      ∙ again_more before own ∙ sym (ap (nat_lt 1) (times_more text words index d within))

pub all_taken : (text : List ℕ) (words : List PlacedWord) (index : ℕ) → length words ≤ index
    → times text (take index words) ≡ times text words
all_taken text words index end = ap (times text) (take_all index words end)

module _ (words : List PlacedWord) (all : List Defined) (whole : List Warning) where
  pub unused_more : (index : ℕ) (d : Defined) (found found' : List Warning) (again : Bool) → index < length all
      → again ≡ nat_lt 1 (times (defined_value (get_or all index d)).name words)
      → found' ≡ found ++ unused_by again (defined_value (get_or all index d))
      → found ++ unused words (map defined_value (drop index all)) ≡ whole
      → found' ++ unused words (map defined_value (drop (index + 1) all)) ≡ whole
  unused_more index d found found' again within is grows so_far =
      let one = get_or all index d in
      let rest = unused words (map defined_value (drop (index + 1) all)) in
      ap (λ l. l ++ rest) (grows ∙ ap (λ b. found ++ unused_by b (defined_value one)) is)
      ∙ append_assoc found (unused_by (nat_lt 1 (times (defined_value one).name words)) (defined_value one)) rest
      ∙ ap (λ l. found ++ unused words (map defined_value l)) (sym (drop_more all index d within))
      ∙ so_far
