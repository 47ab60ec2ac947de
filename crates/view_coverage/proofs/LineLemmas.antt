-- Sums of the counts of lines.
use Rattle.std.proofs.Common.{◌≡◌, ◌∙◌, ◌+◌, ◌<◌, ◌||◌, ◌++◌, ℕ, Bool, true, false, List, [], ◌∷◌, ap, arith, get_or, length, refl, sym, take}
use Rattle.std.specs.List.{list_any}
use Rattle.std.specs.List.Sorted.{IsPermutation}
use Rattle.std.proofs.lemmas.Grind.{take_at_read}
use Rattle.std.proofs.lemmas.List.Folds.{list_any-append}
use Rattle.std.proofs.lemmas.List.Sorted.{list_any-IsPermutation, sum_by-IsPermutation}
use Rattle.std.proofs.lemmas.List.Sums.{sum_by-append}
use Rattle.view_coverage.specs.Lcov.{SumsUp, is_at, times_at, times_if}
use Rattle.view_coverage.specs.declared.sections.line_count.LineCount.{LineCount}

pub sums-same : (counts lines : List LineCount) → counts ≡ lines → SumsUp counts lines
sums-same counts lines same = record {
  has = λ line. ap (list_any (is_at line)) (sym same);
  times = λ line. ap (times_at line) (sym same);
}

pub sums-from : (counts others lines : List LineCount) → counts ≡ others → SumsUp others lines → SumsUp counts lines
sums-from counts others lines same sums = record {
  has = λ line. sums.has line ∙ ap (list_any (is_at line)) (sym same);
  times = λ line. sums.times line ∙ ap (times_at line) (sym same);
}

pub sums-moved : (counts sorted lines : List LineCount) → IsPermutation counts sorted → SumsUp sorted lines
    → SumsUp counts lines
sums-moved counts sorted lines moved sums = record {
  has = λ line. sums.has line ∙ sym (list_any-IsPermutation (is_at line) counts sorted moved);
  times = λ line. sums.times line ∙ sum_by-IsPermutation (times_if line) counts sorted moved;
}

-- one more, after what sums up
pub sums-more : (counts lines more : List LineCount) (count : LineCount) → SumsUp counts lines
    → SumsUp (lines ++ count ∷ []) more → SumsUp (counts ++ count ∷ []) more
sums-more counts lines more count sums last = record {
  has = λ line.
      last.has line
      ∙ list_any-append (is_at line) lines (count ∷ [])
      ∙ ap (λ b. b || list_any (is_at line) (count ∷ [])) (sums.has line)
      ∙ sym (list_any-append (is_at line) counts (count ∷ []));
  times = λ line.
      last.times line
      ∙ sum_by-append (times_if line) lines (count ∷ [])
      ∙ ap (λ n. n + times_at line (count ∷ [])) (sums.times line)
      ∙ sym (sum_by-append (times_if line) counts (count ∷ []));
}

-- one count further
pub sums-step : (counts : List LineCount) (i : ℕ) (one : LineCount) (lines more : List LineCount) → i < length counts
    → SumsUp (take i counts) lines → SumsUp (lines ++ get_or counts i one ∷ []) more → SumsUp (take (i + 1) counts) more
sums-step counts i one lines more here sums last =
    sums-from (take (i + 1) counts) (take i counts ++ get_or counts i one ∷ []) more (take_at_read counts i one here).1
    (sums-more (take i counts) lines more (get_or counts i one) sums last)

-- two of one line are one
any-joined : (p : LineCount → Bool) (one last count : LineCount) (b : Bool) → p one ≡ b → p last ≡ b → p count ≡ b
    → list_any p (one ∷ []) ≡ list_any p (last ∷ count ∷ [])
any-joined p one last count true here there other = grind arith
any-joined p one last count false here there other = grind arith

times-joined : (line : ℕ) (one last count : LineCount) (b : Bool) → is_at line one ≡ b → is_at line last ≡ b
    → is_at line count ≡ b → one.times ≡ last.times + count.times
    → times_at line (one ∷ []) ≡ times_at line (last ∷ count ∷ [])
times-joined line one last count true here there other times = grind arith
times-joined line one last count false here there other times = grind arith

pub sums-joined : (lines : List LineCount) (one last count : LineCount) → one.line ≡ last.line
    → last.line ≡ count.line → one.times ≡ last.times + count.times
    → SumsUp (lines ++ last ∷ count ∷ []) (lines ++ one ∷ [])
sums-joined lines one last count first second times = record {
  has = λ line.
      let here : is_at line one ≡ is_at line last = grind arith in
      let there : is_at line count ≡ is_at line last = grind arith in
      list_any-append (is_at line) lines (one ∷ [])
      ∙ ap (λ b. list_any (is_at line) lines || b)
      (any-joined (is_at line) one last count (is_at line last) here refl there)
      ∙ sym (list_any-append (is_at line) lines (last ∷ count ∷ []));
  times = λ line.
      let here : is_at line one ≡ is_at line last = grind arith in
      let there : is_at line count ≡ is_at line last = grind arith in
      sum_by-append (times_if line) lines (one ∷ [])
      ∙ ap (λ n. times_at line lines + n) (times-joined line one last count (is_at line last) here refl there times)
      ∙ sym (sum_by-append (times_if line) lines (last ∷ count ∷ []));
}
