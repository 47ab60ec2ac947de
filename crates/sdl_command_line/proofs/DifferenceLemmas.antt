-- Lines that two texts begin with, and those that follow.
use Rattle.std.proofs.Common.{◌≡◌, ◌≢◌, ◌∙◌, ◌⊎◌, ⊎_elim, ℕ, ◌+◌, ◌<◌, ◌≤◌, ◌∷◌, [], ◌++◌, Bool, List, ap, arith, drop, get_or, false, length, max, min, not, refl, suc, sym, take, true, true≢false, zero}
use Rattle.std.proofs.lemmas.Bool.{cases_order}
use Rattle.std.proofs.lemmas.List.{length-map, length-take-le, map_more, take-map, take_all}
use Rattle.std.proofs.lemmas.Slice.Eq.{bytes_eq-Decides}
use Rattle.std.specs.Borrow.{Bor}
use Rattle.std.specs.Str.{bytes_eq}
use Rattle.std.specs.Prelude.{None, Some, slice_get}
use Rattle.sdl_command_line.specs.Difference.{IsFirstDifference, text_of}
use Rattle.sdl_command_line.specs.Lines.{texts_of}
use Rattle.sdl_command_line.specs.declared.expected.difference.Difference.{Difference}

-- ---- texts that are the same

-- the texts up to a line and with it
text_more : (lines : List (Bor (List ℕ))) (at : ℕ) (line d : Bor (List ℕ)) → at < length lines →
    line ≡ get_or lines at d → take (at + 1) (texts_of lines) ≡ take at (texts_of lines) ++ line.now ∷ []
text_more lines at line d inside is =
    take-map (λ (l : Bor (List ℕ)). l.now) (at + 1) lines
    ∙ map_more (λ (l : Bor (List ℕ)). l.now) lines at d inside
    ∙ ap (λ l. l ++ (get_or lines at d).now ∷ []) (sym (take-map (λ (l : Bor (List ℕ)). l.now) at lines))
    ∙ ap (λ (l : Bor (List ℕ)). take at (texts_of lines) ++ l.now ∷ []) (sym is)

-- one more line is the same
one_more : (wanted told : List (Bor (List ℕ))) (at : ℕ) (one other d e : Bor (List ℕ)) → at < length wanted →
    at < length told → one ≡ get_or wanted at d → other ≡ get_or told at e → one.now ≡ other.now →
    take at (texts_of wanted) ≡ take at (texts_of told) →
    take (at + 1) (texts_of wanted) ≡ take (at + 1) (texts_of told)
one_more wanted told at one other d e inside within here there same before =
    text_more wanted at one d inside here
    ∙ ap (λ l. l ++ one.now ∷ []) before
    ∙ ap (λ l. take at (texts_of told) ++ l ∷ []) same
    ∙ sym (text_more told at other e within there)

all_of : (lines : List (Bor (List ℕ))) (at : ℕ) → at ≡ length lines → take at (texts_of lines) ≡ texts_of lines
all_of lines at is =
    take_all at (texts_of lines) (omega (arith, is, length-map lines (λ (l : Bor (List ℕ)). l.now)))

-- lines of the same texts to the end of both are the same
pub all_same : (wanted told : List (Bor (List ℕ))) (at : ℕ) → at ≡ length wanted → at ≡ length told →
    take at (texts_of wanted) ≡ take at (texts_of told) → texts_of wanted ≡ texts_of told
all_same wanted told at here there same = sym (all_of wanted at here) ∙ same ∙ all_of told at there

-- ---- the texts that follow

-- what is got of the texts is the text of what is got of the lines
pub text_got : (lines : List (Bor (List ℕ))) (at : ℕ) → slice_get (texts_of lines) at ≡ text_of (slice_get lines at)
text_got [] at = refl
text_got (line ∷ lines) zero = refl
text_got (line ∷ lines) (suc at) = text_got lines at

-- the first text of a rest
pub first_text : (lines : List (Bor (List ℕ))) (at : ℕ) →
    slice_get (texts_of (drop at lines)) 0 ≡ slice_get (texts_of lines) at
first_text [] zero = refl
first_text [] (suc at) = refl
first_text (line ∷ lines) zero = refl
first_text (line ∷ lines) (suc at) = first_text lines at

there_is : (lines : List (Bor (List ℕ))) (at : ℕ) (line d : Bor (List ℕ)) → at < length lines →
    line ≡ get_or lines at d → slice_get (texts_of lines) at ≡ Some line.now
there_is [] at line d inside is = absurd (omega (arith, inside))
there_is (first ∷ lines) zero line d inside is = ap (λ (l : Bor (List ℕ)). Some l.now) (sym is)
there_is (first ∷ lines) (suc at) line d inside is = there_is lines at line d (omega (arith, inside)) is

-- lines of other texts are no end of both
other_texts : (wanted told : List (Bor (List ℕ))) (at : ℕ) (one other d e : Bor (List ℕ)) → at < length wanted →
    at < length told → one ≡ get_or wanted at d → other ≡ get_or told at e → one.now ≢ other.now →
    slice_get (texts_of wanted) at ≡ slice_get (texts_of told) at → (at ≡ length wanted) × (at ≡ length told)
other_texts wanted told at one other d e inside within here there unlike same =
    let texts : Some one.now ≡ Some other.now =
    sym (there_is wanted at one d inside here) ∙ same ∙ there_is told at other e within there in
    absurd (unlike (cc))

-- whether two lines are other ones
not_false : (b : Bool) → not b ≡ false → b ≡ true
not_false true is = refl
not_false false is = sym is

-- one more line, of which a test says that it is no other
pub line_same : (wanted told : List (Bor (List ℕ))) (at len : ℕ) (differs : Bool) (d e : Bor (List ℕ)) →
    len ≡ min (length wanted) (length told) → at < len →
    differs ≡ not (bytes_eq (get_or wanted at d).now (get_or told at e).now) → differs ≡ false →
    take at (texts_of wanted) ≡ take at (texts_of told) →
    take (at + 1) (texts_of wanted) ≡ take (at + 1) (texts_of told)
line_same wanted told at len differs d e is below tests same before =
    let one = get_or wanted at d in
    let other = get_or told at e in
    let equal : bytes_eq one.now other.now ≡ true = not_false (bytes_eq one.now other.now) (sym tests ∙ same) in
    one_more wanted told at one other d e (omega (arith, is, below)) (omega (arith, is, below)) refl refl
    ((bytes_eq-Decides one.now other.now).0 equal) before

-- a line of which a test says that it is another
pub line_other : (wanted told : List (Bor (List ℕ))) (at len : ℕ) (differs : Bool) (d e : Bor (List ℕ)) →
    len ≡ min (length wanted) (length told) → at < len →
    differs ≡ not (bytes_eq (get_or wanted at d).now (get_or told at e).now) → differs ≡ true →
    slice_get (texts_of wanted) at ≡ slice_get (texts_of told) at → (at ≡ length wanted) × (at ≡ length told)
line_other wanted told at len differs d e is below tests other_is same =
    let one = get_or wanted at d in
    let other = get_or told at e in
    let unlike : one.now ≢ other.now =
    λ equal. true≢false (sym (sym tests ∙ other_is) ∙ ap not ((bytes_eq-Decides one.now other.now).1 equal)) in
    other_texts wanted told at one other d e (omega (arith, is, below)) (omega (arith, is, below)) refl refl unlike same

past_end : (texts : List (List ℕ)) (at : ℕ) → length texts ≤ at → slice_get texts at ≡ None
past_end [] at past = refl
past_end (text ∷ texts) zero past = absurd (omega (arith, past))
past_end (text ∷ texts) (suc at) past = past_end texts at (omega (arith, past))

ends_before : (texts : List (List ℕ)) (at : ℕ) → slice_get texts at ≡ None → length texts ≤ at
ends_before [] at none = omega arith
ends_before (text ∷ texts) zero none = let wrong : Some text ≡ None = none in absurd (cc)
ends_before (text ∷ texts) (suc at) none = omega (arith, ends_before texts at none)

-- where the shorter one ends, both end or only one has a text
pub both_end : (wanted told : List (Bor (List ℕ))) (at : ℕ) → at ≡ min (length wanted) (length told) →
    slice_get (texts_of wanted) at ≡ slice_get (texts_of told) at → (at ≡ length wanted) × (at ≡ length told)
both_end wanted told at is same =
    let wanted_len = length-map wanted (λ (l : Bor (List ℕ)). l.now) in
    let told_len = length-map told (λ (l : Bor (List ℕ)). l.now) in
    ⊎_elim (λ equal. (omega (arith, is, equal), omega (arith, is, equal)))
    (⊎_elim (λ less. absurd (omega (
      arith,
      is,
      less,
      told_len,
      ends_before (texts_of told) at
          (sym same ∙ past_end (texts_of wanted) at (omega (arith, is, less, wanted_len))),
    )))
    (λ more. absurd (omega (
      arith,
      is,
      more,
      wanted_len,
      ends_before (texts_of wanted) at
          (same ∙ past_end (texts_of told) at (omega (arith, is, more, told_len))),
    ))))
    (cases_order (length wanted) (length told))

-- ---- the first difference

-- Texts differ, if not all lines of both are the same.
pub texts_differ : (wanted told : List (Bor (List ℕ))) (at : ℕ) →
    (slice_get (texts_of wanted) at ≡ slice_get (texts_of told) at → (at ≡ length wanted) × (at ≡ length told)) →
    at ≢ max (length wanted) (length told) → texts_of wanted ≢ texts_of told
texts_differ wanted told at next unlike same =
    let ends = next (ap (λ l. slice_get l at) same) in
    unlike (omega (arith, ends.0, ends.1))

pub difference_at : (wanted told : List (Bor (List ℕ))) (at : ℕ) (found : Difference) → at ≤ length wanted →
    found.same.now ≡ take at wanted → take at (texts_of wanted) ≡ take at (texts_of told) →
    text_of found.wanted ≡ slice_get (texts_of (drop at wanted)) 0 →
    text_of found.told ≡ slice_get (texts_of (drop at told)) 0 →
    (slice_get (texts_of wanted) at ≡ slice_get (texts_of told) at → (at ≡ length wanted) × (at ≡ length told)) →
    at ≢ max (length wanted) (length told) → IsFirstDifference (texts_of wanted) (texts_of told) found
difference_at wanted told at found inside same begins here there next unlike =
    let len : length found.same.now ≡ at = ap length same ∙ length-take-le at wanted inside in
    let front : take at (texts_of wanted) ≡ texts_of found.same.now =
    take-map (λ (l : Bor (List ℕ)). l.now) at wanted ∙ ap texts_of (sym same) in
    let wanted_is : text_of found.wanted ≡ slice_get (texts_of wanted) at = here ∙ first_text wanted at in
    let told_is : text_of found.told ≡ slice_get (texts_of told) at = there ∙ first_text told at in
    let unequal : slice_get (texts_of wanted) at ≢ slice_get (texts_of told) at =
    λ equal. unlike (omega (arith, (next equal).0, (next equal).1)) in
    record {
      wanted_begins = ap (λ n. take n (texts_of wanted)) len ∙ front;
      told_begins = ap (λ n. take n (texts_of told)) len ∙ sym begins ∙ front;
      wanted_line = wanted_is ∙ ap (slice_get (texts_of wanted)) (sym len);
      told_line = told_is ∙ ap (slice_get (texts_of told)) (sym len);
      differ = λ equal. unequal (sym wanted_is ∙ equal ∙ told_is);
    }
