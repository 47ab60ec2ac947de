-- How far a place is from the begin of its line.
use Rattle.std.proofs.Common.{◌≡◌, ◌≢◌, ◌∙◌, ℕ, ◌+◌, ◌-◌, ◌<◌, ◌≤◌, List, ap, arith, get_or, length}
use Rattle.std.proofs.Common.{length-drop, not, sym, take, ⊎_elim}
use Rattle.std.specs.Prelude.{◌==◌, slice_range}
use Rattle.std.proofs.lemmas.Bool.{cases_lt, ne_eqb}
use Rattle.std.proofs.lemmas.List.{get_or-take, length-take-le}
use Rattle.std.proofs.lemmas.List.Sums.{suffix_len_is}
use Rattle.sdl_lex.specs.Place.{is_line_end, last_line_len}
use Rattle.sdl_lex.specs.declared.place.Place.{Place}
use Rattle.explain_syntax.specs.Excerpt.{IsAt, IsExcerpt, IsLine}
use Rattle.explain_syntax.specs.declared.lines.excerpt.Excerpt.{Excerpt}

-- as many bytes as come after the last line end
line_len : (text : List ℕ) (start offset : ℕ) → start ≤ offset → offset ≤ length text →
    ((k : ℕ) → start ≤ k → k < offset → get_or text k 0 ≢ 10) →
    (0 < start → get_or text (start - 1) 0 ≡ 10) → last_line_len (take offset text) ≡ offset - start
line_len text start offset before within one begins =
    let len : length (take offset text) ≡ offset = length-take-le offset text within in
    suffix_len_is (λ b. not (is_line_end b)) (take offset text) start 0 (omega arith)
    (λ k from to.
    let inside : k < offset = omega arith in
    ap (λ b. not (b == 10)) (get_or-take offset text k 0 inside)
    ∙ ap not (ne_eqb (get_or text k 0) 10 (one k from inside)))
    (λ after.
    let inside : start - 1 < offset = omega arith in
    ap (λ b. not (b == 10)) (get_or-take offset text (start - 1) 0 inside ∙ begins after))
    ∙ ap (λ n. n - start) len

length-slice : (text : List ℕ) (start end : ℕ) → start ≤ end → end ≤ length text →
    length (slice_range text start end) ≡ end - start
length-slice text start end ordered within = grind (arith, length-take-le {A = ℕ}, length-drop {A = ℕ})

-- the line around a place, parted there, is its excerpt
pub excerpt_of : (text : List ℕ) (place : Place) (excerpt : Excerpt) (start offset end : ℕ) → IsAt text place offset →
    start ≤ offset → ((k : ℕ) → start ≤ k → k < offset → get_or text k 0 ≢ 10) →
    (0 < start → get_or text (start - 1) 0 ≡ 10) → IsLine text start end → offset ≤ end → excerpt.place ≡ place →
    excerpt.before.now ≡ slice_range text start offset → excerpt.behind.now ≡ slice_range text offset end →
    IsExcerpt text place excerpt
excerpt_of text place excerpt start offset end at_place from one begins line to told before behind =
    let column : place.column ≡ last_line_len (take offset text) + 1 = sym (ap (λ (p : Place). p.column) at_place.1) in
    let len : last_line_len (take offset text) ≡ offset - start =
    line_len text start offset from at_place.0 one begins in
    let shown : length excerpt.before.now ≡ offset - start =
    ap length before ∙ length-slice text start offset from at_place.0 in
    record {
      start = start;
      offset = offset;
      end = end;
      line = line;
      from = from;
      to = to;
      at_place = at_place;
      told = told;
      before = before;
      behind = behind;
      column = omega arith;
    }

-- the bytes before and after the place are one line
pub line_of : (text : List ℕ) (start offset end : ℕ) → start ≤ offset → offset ≤ end → end ≤ length text →
    ((k : ℕ) → start ≤ k → k < offset → get_or text k 0 ≢ 10) → (0 < start → get_or text (start - 1) 0 ≡ 10) →
    ((k : ℕ) → offset ≤ k → k < end → get_or text k 0 ≢ 10) → (end < length text → get_or text end 0 ≡ 10) →
    IsLine text start end
line_of text start offset end from to within front begins back ends = record {
  ordered = omega arith;
  within = within;
  one = λ k after before. ⊎_elim (front k after) (λ behind. back k behind before) (cases_lt k offset);
  begins = begins;
  ends = ends;
}
